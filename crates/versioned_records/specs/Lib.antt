pub use Rattle.pool_table.specs.Steps
pub use Rattle.pool_table.specs.Transfers
pub mod Loads
pub mod Reading
pub mod Stores
pub mod Writing
