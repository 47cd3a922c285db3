pub mod Leading
pub mod Exactness
