mod Enough
mod Playable
mod Present
pub mod Settling
mod Unrefused
