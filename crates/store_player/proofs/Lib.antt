pub mod Found
pub mod Going
pub mod Playing
pub mod Whole
pub mod Written
