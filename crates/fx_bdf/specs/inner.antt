-- What only private contracts cite.
pub mod BoxRows
pub mod Lines
pub mod RowWords
