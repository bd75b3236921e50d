pub mod Choosing
pub mod OutlineLines
pub mod Outlining
pub mod TracesTold
