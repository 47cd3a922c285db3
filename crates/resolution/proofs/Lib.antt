pub mod Settings
pub mod Laws
pub mod Rises
pub mod Copies
pub mod Parts
pub mod Owned
pub mod Ways
