pub mod Check
pub mod Passes
pub mod Roster
pub mod Sheet
pub mod steps
