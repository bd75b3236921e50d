-- What only private contracts cite.
pub mod Blank
pub mod Tables
pub mod Bytes
