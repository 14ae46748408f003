pub mod Made
pub mod Settling
