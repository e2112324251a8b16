pub mod Outcomes
pub mod Putting
pub mod Turning
