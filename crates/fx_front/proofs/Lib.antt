pub mod Saying
pub mod Stripped
pub mod Following
pub mod Parting
pub mod Folders
pub mod Answering
