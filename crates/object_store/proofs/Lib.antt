pub mod Known
pub mod Padded
pub mod Puts
pub mod Crossing
pub mod Fewer
