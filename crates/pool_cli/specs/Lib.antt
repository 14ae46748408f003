pub mod Asked
pub mod Causes
pub mod Ending
pub mod Playing
pub mod Printed
pub mod Replies
pub mod Shapes
pub mod Gates
