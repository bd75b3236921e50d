pub mod Curve
pub mod Contours
pub mod Moves
pub mod Frames
pub mod DropoutFrames
pub mod Faults
pub mod Bounds
