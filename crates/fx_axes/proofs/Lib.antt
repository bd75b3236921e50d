pub mod Quotients
pub mod Sweeps
pub mod Inside
pub mod Maps
pub mod Filling
