pub mod Gathering
pub mod Showing
pub mod Origin
