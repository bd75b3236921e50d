pub mod Walking
pub mod Contours
pub mod Sound
mod Totals
mod Places
mod Steps
mod RunLaws
mod Recalling
mod Programs
mod Machines
mod Turning
mod Joined
pub mod Watching
pub mod Bounding
mod Forgetting
