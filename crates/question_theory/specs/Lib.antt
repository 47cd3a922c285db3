pub mod Unrolling
pub mod Traces
pub mod Inductions
pub mod Shapes
