pub mod Enough
pub mod Bytes
