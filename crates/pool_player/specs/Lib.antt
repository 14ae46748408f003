pub mod Calling
pub mod Playing
pub mod Player
