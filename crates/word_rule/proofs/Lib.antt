pub mod Among
pub mod Seating
