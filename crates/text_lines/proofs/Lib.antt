-- The laws of numbers, texts and lines.
pub mod ChoiceLaws
pub mod DecimalLaws
pub mod NewlineLaws
pub mod NumberLaws
pub mod PageLaws
pub mod PlanFitLaws
pub mod PlanLaws
pub mod PlanLineLaws
pub mod PlanOutcomes
pub mod PlansFitLaws
pub mod PlansLineLaws
pub mod PlansOutcomes
pub mod PutLaws
pub mod PuttingLaws
pub mod TextOutcomes
