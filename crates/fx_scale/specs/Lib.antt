pub mod Scaling
pub mod Phantoms
pub mod Zones
pub mod Controls
