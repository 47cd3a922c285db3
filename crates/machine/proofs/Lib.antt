pub mod Entries
pub mod RowBits
