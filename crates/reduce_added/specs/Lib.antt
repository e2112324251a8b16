pub mod Copies
pub mod Groups
pub mod Pairs
pub mod steps
