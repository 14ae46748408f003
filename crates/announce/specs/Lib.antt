pub use Rattle.pool_table.specs.Steps
pub use Rattle.pool_table.specs.Transfers
pub mod Heard
pub mod Reading
pub mod Stored
