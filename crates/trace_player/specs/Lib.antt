pub mod Tally
pub mod Fit
pub mod Playing
pub mod Plain
pub mod Report
