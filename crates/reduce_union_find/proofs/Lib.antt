-- The laws of the union-find, and what its functions' proofs cite.
pub mod Entry
pub mod Examples
pub mod Grouping
pub mod HeightOutcomes
pub mod Joins
pub mod Linking
pub mod Made
pub mod Outcomes
pub mod Partition
pub mod Root
pub mod Together
pub mod Way
pub mod Writing
