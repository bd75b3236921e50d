-- What only private contracts cite.
pub mod Controlled
pub mod Lending
pub mod Steps
