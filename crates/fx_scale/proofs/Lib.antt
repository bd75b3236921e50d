pub mod Exact
pub mod Ends
pub mod Signs
mod Factors
