pub mod Answers
pub mod Fault
pub mod Leaving
pub mod Lines
pub mod Meanings
pub mod Number
pub mod Taken
pub mod Words
