-- The laws of the search's refusals, and the proof of demand 3.
pub mod AnswerBack
pub mod Answers
pub mod CallPasses
pub mod DemandHolds
pub mod Examples
pub mod JudgedLaws
pub mod Limits
pub mod Outcomes
