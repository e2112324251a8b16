-- The proofs of the call: where the walk ends, and what a page tells.
pub mod PageTells
