pub mod Ledger
pub mod Fits
pub mod Holds
pub mod Steps
pub mod Grips
pub mod Longest
pub mod Laws
