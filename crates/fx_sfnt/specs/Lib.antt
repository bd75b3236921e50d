pub mod Fields
pub mod Units
pub mod Collections
pub mod Tables
pub mod Glyphs
