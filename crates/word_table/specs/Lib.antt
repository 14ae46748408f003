pub use Rattle.word_rule.specs.Moves
pub mod Rising
pub mod Seats
