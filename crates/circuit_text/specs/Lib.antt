pub mod Chains
pub mod Texts
pub mod Fields
pub mod Lines
pub mod Sections
pub mod Printed
