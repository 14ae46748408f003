pub mod Pools
pub mod Phases
pub mod Beginning
pub mod Conditions
pub mod OwnSteps
pub mod Steps
pub mod Ready
pub mod Laws
