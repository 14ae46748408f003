pub mod Slots
pub mod Turning
pub mod Order
