pub mod Reduction
pub mod steps
