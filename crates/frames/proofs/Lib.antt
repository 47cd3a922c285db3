pub mod Growth
pub mod Views
pub mod Writing
