pub mod Calls
pub mod Map
pub mod steps
