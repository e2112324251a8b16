-- The laws of the rows, the table, the row check, the numbers that calls hand back, and a day's lists.
pub mod CheckLaws
pub mod CountLaws
pub mod KeptLaws
pub mod KindLaws
pub mod LevelLaws
pub mod LineLaws
pub mod ListOutcomes
pub mod Outcomes
pub mod RowBytes
pub mod RowLaws
pub mod SignedLaws
pub mod TableOutcomes
pub mod ToldLaws
