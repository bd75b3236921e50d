pub mod Steps
pub mod NumberSteps
pub mod DeltaSteps
pub mod Quotients
pub mod Scalars
pub mod NumberLists
pub mod Sizes
pub mod Resting
