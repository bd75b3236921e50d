pub mod Words
pub mod Points
pub mod Components
pub mod Shapes
pub mod Grammar
pub mod Glyphs
pub mod inner
