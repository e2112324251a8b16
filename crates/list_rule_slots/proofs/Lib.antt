-- The laws of the rules: a plan that keeps the sums, or the row, keeps its places;
-- and each way through the code.
pub mod LimitLaws
pub mod SlotLaws
pub mod StandLaws
pub mod StepLaws
pub mod SumLaws
