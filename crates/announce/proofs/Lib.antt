pub mod Hearing
pub mod Announcing
pub mod Reading
