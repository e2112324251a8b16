-- The laws of the map: its entries, what is looked up, the two calls, and the own map as a map.
pub mod Entries
pub mod Examples
pub mod Filling
pub mod Holding
pub mod Looking
pub mod Outcomes
pub mod OwnMap
