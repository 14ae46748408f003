pub mod Tides
pub mod Peaks
pub mod Pools
pub mod LiveBytes
pub mod Tables
pub mod Unrefused
