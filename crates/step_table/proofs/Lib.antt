pub mod Written
pub mod RowNumbers
pub mod RowClause
pub mod Numbered
pub mod RowFront
pub mod FilledRow
