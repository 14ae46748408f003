pub mod Sums
pub mod Texts
pub mod Reports
mod StoreScripts
pub mod Endings
