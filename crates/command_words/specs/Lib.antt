pub mod Number
pub mod Options
pub mod Reads
pub mod Play
pub mod Store
pub mod Drill
pub mod Readable
pub mod Meant
