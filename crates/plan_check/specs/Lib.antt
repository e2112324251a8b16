pub mod Check
pub mod Day
pub mod Feasible
pub mod Plan
pub mod PlanMeans
pub mod Rows
pub mod steps
