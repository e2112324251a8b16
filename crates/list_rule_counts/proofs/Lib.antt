-- Laws of the rule: each way through the code, and that a feasible plan stays within.
pub mod BoundLaws
pub mod CountLaws
pub mod LimitLaws
pub mod RoomLaws
pub mod RuleLaws
pub mod StepLaws
pub mod WantLaws
