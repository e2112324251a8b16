pub mod Cells
pub mod Roster
pub mod Rows
pub mod Seats
pub mod steps
