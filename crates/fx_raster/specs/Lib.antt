pub mod Faults
pub mod Rules
pub mod Frames
pub mod Work
pub mod Laws
pub mod inner
