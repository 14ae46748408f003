pub mod Moved
pub mod Counted
pub mod Pooled
pub mod Steps
pub mod Ending
pub mod Overlaid
