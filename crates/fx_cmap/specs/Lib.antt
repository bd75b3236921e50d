pub mod Subtables
pub mod Segments
pub mod Groups
pub mod Lookup
pub mod Mapped
pub mod Preferences
pub mod inner
