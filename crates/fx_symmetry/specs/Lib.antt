pub mod Halving
pub mod Symmetries
pub mod Pieces
pub mod Outlines
pub mod Dropout
pub mod Shapes
