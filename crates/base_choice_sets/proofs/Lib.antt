-- The laws of sets of choices: how each is told by which choices are in it.
pub mod Outcomes
pub mod ReachLaws
pub mod SetLaws
