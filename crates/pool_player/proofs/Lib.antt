pub mod Calling
pub mod Slots
pub mod Playing
