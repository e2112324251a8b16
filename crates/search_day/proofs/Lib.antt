-- The laws of planning a day: its whole list, the ways through the call, that 14 can't be, and that no two
-- outcomes fit.
pub mod NeverMap
pub mod Outcomes
pub mod PlanSteps
pub mod WholeSteps
