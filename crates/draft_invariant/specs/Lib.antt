pub mod Heads
pub mod Pops
pub mod Holding
pub mod NextState
pub mod Laws
