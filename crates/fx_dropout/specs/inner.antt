-- What only private contracts cite.
pub mod Pairs
pub mod Places
pub mod Closing
pub mod Stretched
pub mod Segments
