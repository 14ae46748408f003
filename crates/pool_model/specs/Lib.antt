pub mod Limits
pub mod History
pub mod Legal
pub mod Plain
pub mod Kept
