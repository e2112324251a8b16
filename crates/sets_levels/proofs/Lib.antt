-- The laws of a level's list: what its functions' proofs cite, a law for each way through the code.
pub mod CallSteps
pub mod Examples
pub mod ListSteps
pub mod Outcomes
