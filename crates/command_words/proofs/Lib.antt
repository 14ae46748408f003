pub mod Numbers
pub mod Parses
pub mod Drills
pub mod Meanings
