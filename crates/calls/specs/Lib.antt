pub mod Answers
pub mod Cuts
pub mod Lines
pub mod Text
pub mod Arguments
