pub mod PageAnswer
pub mod steps
