pub mod Enough
pub mod Lists
pub mod Refusals
