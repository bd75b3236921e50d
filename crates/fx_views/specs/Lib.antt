pub mod Numbers
pub mod Choices
pub mod Outlines
pub mod Listings
pub mod Traces
pub mod inner
