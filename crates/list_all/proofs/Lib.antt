-- The laws of the call, and those that the proofs of the functions cite.
pub mod CallLaws
pub mod Examples
pub mod Outcomes
