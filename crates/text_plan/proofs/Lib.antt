-- The laws of the definitions in specs/, and those that the proofs of the functions cite.
pub mod AnswerLaws
pub mod CallLaws
pub mod DayMeans
pub mod Meaning
pub mod Refusals
