-- The laws of the groups, of copied rows and of pairs.
pub mod Copying
pub mod Cutting
pub mod Fitting
pub mod GroupBounds
pub mod Joining
pub mod Limits
pub mod PairBounds
pub mod Pairing
