pub mod LivePairs
pub mod WellFormed
pub mod Lines
pub mod Readers
pub mod Meanings
pub mod Making
pub mod Short
