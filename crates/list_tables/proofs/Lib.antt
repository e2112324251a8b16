-- The laws of the weights and of the tables.
pub mod LightestFillLaws
pub mod LightestLaws
pub mod StartLaws
pub mod TableLaws
pub mod WeightLaws
