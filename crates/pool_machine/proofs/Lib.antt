pub mod Plans
pub mod Ending
