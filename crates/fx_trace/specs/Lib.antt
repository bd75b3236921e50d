pub mod Changes
pub mod Snapshots
pub mod Lines
pub mod Traces
pub mod inner
