pub mod Given
pub mod Sums
pub mod Counting
pub mod Kept
pub mod TupleSteps
pub mod Between
pub mod AddingNothing
