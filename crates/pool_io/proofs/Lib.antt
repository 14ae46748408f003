pub mod Counting
pub mod InMemory
pub mod Told
pub mod Writing
