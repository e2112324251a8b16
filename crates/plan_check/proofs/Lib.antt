-- The laws of a plan's bytes, of what rows ask of a plan, of each slot's sums and of the plan check.
pub mod CheckLaws
pub mod FeasibleLaws
pub mod Joined
pub mod KeptLaws
pub mod Meaning
pub mod Outcomes
pub mod PlanLaws
pub mod RowLaws
pub mod RowOutcomes
pub mod SumLaws
