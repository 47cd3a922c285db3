pub mod Ordering
pub mod Fronts
pub mod OneClause
pub mod ManyClauses
pub mod ManySteps
pub mod Judging
