pub mod Growing
pub mod Moments
pub mod Links
pub mod Playing
pub mod Gathered
pub mod Together
pub mod Prepared
pub mod Settled
