pub mod Limits
pub mod Refusals
pub mod Advice
pub mod Faults
pub mod Characters
pub mod Notices
