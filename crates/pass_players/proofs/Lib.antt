pub mod Growing
pub mod Items
pub mod Moments
pub mod Gathering
pub mod Parting
pub mod Closed
pub mod Gated
pub mod Settling
