pub mod Keeping
pub mod Playing
pub mod Counting
pub mod Standings
pub mod Answering
