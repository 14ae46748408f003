pub mod Enough
pub mod Counts
