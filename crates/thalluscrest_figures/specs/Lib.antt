pub mod Codes
pub mod Counts
pub mod Crossing
pub mod Layouts
pub mod steps
