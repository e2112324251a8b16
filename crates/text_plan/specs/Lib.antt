pub mod Calls
pub mod PlanAnswer
pub mod steps
