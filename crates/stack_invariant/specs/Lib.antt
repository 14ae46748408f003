pub mod Following
pub mod Loads
pub mod Stack
pub mod Shown
pub mod Gives
pub mod Emptied
pub mod Laws
