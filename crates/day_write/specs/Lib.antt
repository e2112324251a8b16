pub mod Calls
pub mod steps
