pub mod Stages
pub mod StepCount
pub mod Kept
pub mod Holds
pub mod Laws
