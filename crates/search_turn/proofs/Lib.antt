-- The laws of a state's turns, of what ends a pass, and of a new depth's candidates.
pub mod DepthLaws
pub mod DepthOutcomes
pub mod DrawLaws
pub mod PlanLaws
pub mod ShapeLaws
pub mod SightLaws
pub mod SightOutcomes
pub mod StateLaws
pub mod StateOutcomes
pub mod TurnLaws
