pub mod Meaning
pub mod Runs
pub mod Rows
pub mod Lists
pub mod Clauses
