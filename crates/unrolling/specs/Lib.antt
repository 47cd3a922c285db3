pub mod Pushes
pub mod Ties
pub mod Asked
