-- The laws of the definitions in specs/, and those that the proofs of the functions cite.
pub mod CallLaws
pub mod DayLaws
pub mod ListedLaws
pub mod Outcomes
