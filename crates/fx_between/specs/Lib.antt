pub mod Contours
pub mod inner
