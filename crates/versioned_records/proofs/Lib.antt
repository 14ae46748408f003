pub mod Loading
pub mod Reading
pub mod Storing
pub mod Writing
