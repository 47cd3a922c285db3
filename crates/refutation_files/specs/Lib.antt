pub mod ClauseFiles
pub mod ProofFiles
pub mod Verdicts
