-- The laws of a pass at its limit and of the call: a law for each way through the code, and no two outcomes.
pub mod AlongSteps
pub mod CallSteps
pub mod LentSteps
pub mod OrderSteps
pub mod Outcomes
pub mod PassLaws
pub mod PassSteps
pub mod SearchLaws
pub mod SetSteps
