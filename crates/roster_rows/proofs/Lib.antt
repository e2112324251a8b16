-- The laws of a roster's rows and cells.
pub mod ApartLaws
pub mod CellLaws
pub mod EqualLaws
pub mod JudgeLaws
pub mod KindLaws
pub mod Meaning
pub mod Outcomes
pub mod TallyLaws
pub mod Words
