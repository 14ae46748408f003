pub use Rattle.pool_table.specs.Steps
pub use Rattle.pool_table.specs.Transfers
pub mod Alone
pub mod Ended
pub mod Running
