-- What only private contracts cite.
pub mod Moves
pub mod Sizes
