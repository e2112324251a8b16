-- The laws of the definitions in specs/, and those that the proofs of the functions cite.
pub mod FileLaws
pub mod MadeLaws
pub mod Outcomes
pub mod ReduceLaws
pub mod SearchLaws
