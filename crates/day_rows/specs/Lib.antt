pub mod Check
pub mod Kinds
pub mod Levels
pub mod Op
pub mod Refusal
pub mod Row
pub mod Told
