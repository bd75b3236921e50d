pub mod Watched
pub mod Working
pub mod Stopping
pub mod Stepping
pub mod Steps
mod Tables
pub mod Reading
pub mod Looping
pub mod Keeping
pub mod KeptShapes
pub mod Starting
pub mod Named
pub mod WordsBack
pub mod PointsMore
pub mod BlocksBack
pub mod BlockMachines
pub mod Blanks
