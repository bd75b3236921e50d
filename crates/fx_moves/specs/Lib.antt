pub mod Inferred
pub mod Giving
pub mod Adding
pub mod Moves
pub mod Stores
pub mod Laws
