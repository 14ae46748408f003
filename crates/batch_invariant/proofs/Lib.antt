pub mod Moving
pub mod Going
pub mod Steps
pub mod Transit
pub mod Applied
pub mod Installing
