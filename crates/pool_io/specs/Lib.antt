pub mod Counts
pub mod Links
pub mod MemoryFiles
pub mod MemorySink
pub mod Told
pub mod Writes
