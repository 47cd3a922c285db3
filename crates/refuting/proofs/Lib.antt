pub mod Moving
pub mod Turns
pub mod Stepping
pub mod Accepting
pub mod Loop
