pub mod Rounding
pub mod Sweeps
pub mod Fvar
pub mod Coordinates
pub mod Avar
pub mod Places
