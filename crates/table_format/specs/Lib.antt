pub mod Tables
pub mod Questions
pub mod Records
pub mod Stepping
