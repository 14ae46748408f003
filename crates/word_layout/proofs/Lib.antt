pub mod Ages
pub mod Lengths
pub mod Limits
pub mod Packed
pub mod Placed
pub mod Refusals
