pub mod Faults
pub mod Kept
pub mod Names
pub mod Packing
pub mod Sizes
pub mod Laws
