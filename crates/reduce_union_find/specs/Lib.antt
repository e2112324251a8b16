pub mod Groups
pub mod State
pub mod steps
