pub mod Ages
pub mod Makings
pub mod Readings
pub mod Replays
pub mod Texts
