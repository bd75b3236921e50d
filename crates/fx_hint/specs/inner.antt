-- What only private contracts cite.
pub mod Places
pub mod Steps
pub mod RunSteps
pub mod Standing
pub mod Plain
pub mod Kept
