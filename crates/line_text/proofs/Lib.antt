pub mod Answers
pub mod Choices
pub mod Cuts
pub mod Digits
pub mod Lines
pub mod Meanings
pub mod Taking
