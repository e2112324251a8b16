pub mod Turn
pub mod steps
