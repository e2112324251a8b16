-- The laws of the look ahead and of the open places.
pub mod LookLaws
pub mod OpenLaws
pub mod SlotLaws
pub mod StepLaws
