pub mod CutAt
pub mod Words
pub mod Verbs
