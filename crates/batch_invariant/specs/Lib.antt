pub mod Places
pub mod Batches
pub mod Transit
pub mod Premises
pub mod Laws
