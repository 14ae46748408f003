pub mod Filled
pub mod Drafts
pub mod NextStates
