-- The laws of the loop over levels, a law for each way through the code.
pub mod LevelSteps
pub mod Outcomes
pub mod StepSteps
