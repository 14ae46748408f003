pub mod Numbers
pub mod Line
pub mod Reading
pub mod ScheduleWriter
pub mod Replays
pub mod Text
