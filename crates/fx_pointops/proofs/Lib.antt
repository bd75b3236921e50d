pub mod Looping
pub mod Multiplying
pub mod Keeping
pub mod Setting
