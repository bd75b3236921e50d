pub mod Texts
pub mod Pairs
pub mod Telling
pub mod Stopping
pub mod Finishing
pub mod Programs
pub mod PreludeEnds
