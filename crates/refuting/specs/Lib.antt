pub mod Rooms
pub mod Reading
pub mod Moves
pub mod Refutations
pub mod Checked
