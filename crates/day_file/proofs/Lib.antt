-- The laws of the counts, the tests, the reader, the format and the days.
pub mod BytesLaws
pub mod CountLaws
pub mod DayLaws
pub mod FileLaws
pub mod FormatLaws
pub mod JudgeLaws
pub mod Outcomes
pub mod ReadLaws
pub mod Sample
pub mod WordOutcomes
