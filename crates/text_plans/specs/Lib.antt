pub mod Calls
pub mod PlansAnswer
