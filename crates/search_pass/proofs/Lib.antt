-- The laws of one pass.
pub mod Counted
pub mod DecidedLaws
pub mod DepthLaws
pub mod LoadLaws
pub mod PassLaws
pub mod PlanLaws
pub mod SightLaws
pub mod StackLaws
pub mod Standing
pub mod StateLaws
pub mod StepLaws
pub mod TurnLaws
pub mod Turning
