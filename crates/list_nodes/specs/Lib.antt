pub mod Judge
pub mod Page
pub mod Placements
pub mod steps
