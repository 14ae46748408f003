pub mod Phases
pub mod Ledgers
pub mod InCalls
pub mod InTransfers
pub mod Uses
pub mod Laws
