pub mod Offsets
pub mod Listing
pub mod MovedSteps
pub mod Numbering
pub mod Controlling
pub mod Resting
pub mod NoneCounting
pub mod AllPoints
