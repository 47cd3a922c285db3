pub mod Claims
pub mod Records
pub mod Area
pub mod Steps
pub mod Views
pub mod Verdict
pub mod Counterexamples
