pub mod Determined
pub mod Following
pub mod Lines
pub mod Meanings
pub mod Pages
pub mod Places
pub mod Readings
pub mod Writing
