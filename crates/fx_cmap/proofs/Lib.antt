pub mod Searching
pub mod Preferring
pub mod AllMapped
