pub mod Numbers
pub mod Evaluation
