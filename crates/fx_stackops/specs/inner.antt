-- What only private contracts cite.
pub mod Tops
pub mod Pairs
