pub mod Numerals
pub mod Items
pub mod Buffers
pub mod Options
pub mod Given
pub mod Saying
pub mod Mistaken
pub mod Telling
