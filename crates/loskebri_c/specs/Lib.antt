pub use Rattle.pool_member.specs.Calling
pub use Rattle.pool_member.specs.Opening
pub mod Kept
pub mod Answers
pub mod Described
pub mod Filling
pub mod Lending
pub mod Sizing
