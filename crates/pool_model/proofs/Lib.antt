pub mod Places
pub mod Members
pub mod Histories
pub mod PlainSteps
