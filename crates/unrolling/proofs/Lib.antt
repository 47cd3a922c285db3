pub mod Answered
pub mod LowLiterals
pub mod MovedClauses
pub mod UnrolledNumbers
pub mod Copied
pub mod QuestionNumbers
pub mod Decisions
