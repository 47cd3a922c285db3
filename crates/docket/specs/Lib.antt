pub mod Calls
pub mod Books
pub mod Reached
pub mod Histories
pub mod Law
pub mod Texts
