pub mod Standing
pub mod Begun
pub mod Moved
pub mod Carried
pub mod Owned
pub mod Alone
pub mod Uses
