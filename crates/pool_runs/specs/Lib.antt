pub mod Drills
pub mod Enough
pub mod Playable
pub mod Ready
pub mod Settled
