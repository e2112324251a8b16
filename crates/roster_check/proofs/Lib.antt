-- The laws of the roster check: slots, seats, the highest preference met, refusals and the call.
pub mod CallLaws
pub mod HighestLaws
pub mod JudgeLaws
pub mod Meaning
pub mod Outcomes
pub mod SeatLaws
