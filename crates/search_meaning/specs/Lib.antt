pub mod Calls
pub mod Demand
pub mod Given
pub mod Judged
pub mod Search
pub mod SearchAnswer
pub mod steps
pub use Rattle.search_map.specs.Map
