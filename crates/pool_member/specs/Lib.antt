pub mod Fitting
pub mod Calling
pub mod Opening
