-- The laws of what rows allow, and of candidates.
pub mod AllowExamples
pub mod AllowLaws
pub mod AllowOutcomes
pub mod BucketLaws
pub mod CaseLaws
pub mod Examples
pub mod FillLaws
pub mod LoopLaws
pub mod Outcomes
pub mod StuckLaws
pub mod TestLaws
