-- The laws of decided rows and of their order.
pub mod ExactLaws
pub mod LastLaws
pub mod LeavesLaws
pub mod OrderLaws
