pub mod Units
pub mod Putting
