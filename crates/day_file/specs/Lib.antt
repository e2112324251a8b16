pub mod Calls
pub mod File
pub mod FileDay
pub mod steps
