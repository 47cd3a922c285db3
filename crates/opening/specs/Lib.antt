pub mod Steps
pub mod Reading
pub mod Views
pub mod Openings
