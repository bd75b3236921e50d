pub mod Made
pub mod FirstLines
pub mod Pictures
pub mod Telling
pub mod AllMapped
pub mod FaceLines
pub mod Ranges
pub mod Sized
