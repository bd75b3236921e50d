pub mod Table
pub mod Store
pub mod Rows
pub mod inner
