pub mod Bound
pub mod Calls
pub mod Kept
pub mod LevelList
pub mod SetsDay
pub mod steps
