pub mod Decided
pub mod Pass
pub mod Passes
pub mod Turns
pub mod Walk
pub mod steps
