pub mod Asked
pub mod Lawful
pub mod Verdicts
pub mod Begun
