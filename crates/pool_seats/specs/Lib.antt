pub mod Opening
pub mod Settling
