pub mod Words
pub mod Opens
pub mod Gaps
pub mod Lines
mod Closed
pub mod Counts
pub mod NoGaps
pub mod Stretching
pub mod Adding
pub mod Decided
pub mod Sums
pub mod Priced
pub mod Walked
