-- The laws that the proofs of the functions cite, and those of what is promised.
pub mod FillLaws
pub mod Outcomes
pub mod PartLaws
pub mod ReadingLaws
pub mod SameLaws
pub mod TallyLaws
