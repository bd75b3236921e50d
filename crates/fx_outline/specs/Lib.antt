pub mod Limits
pub mod Ends
