-- What only private contracts cite.
pub mod Drawing
pub mod Gathering
pub mod Keeping
pub mod Mapping
pub mod Surveying
pub mod Weighing
pub mod Writing
