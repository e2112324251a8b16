-- The laws of the orders, a law for each way through the code, and that no two outcomes fit.
pub mod OrderLaws
pub mod OrderSteps
pub mod Outcomes
pub mod Times
