pub mod Parts
pub mod Holds
pub mod Laws
