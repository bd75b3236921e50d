pub mod Dropout
pub mod Tests
pub mod Laws
pub mod Decided
pub mod Work
pub mod inner
