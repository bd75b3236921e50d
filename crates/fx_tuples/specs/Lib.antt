pub mod Regions
pub mod Numbers
pub mod Deltas
pub mod Headers
pub mod Tuples
pub mod Stores
pub mod Laws
