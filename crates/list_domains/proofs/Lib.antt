pub mod DomainLaws
pub mod LowestLaws
pub mod PlaceLaws
