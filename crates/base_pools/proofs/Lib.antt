-- The laws of clearing and of insertion, and that no two outcomes fit.
pub mod Clearing
pub mod InsertLaws
pub mod InsertOutcomes
pub mod Outcomes
