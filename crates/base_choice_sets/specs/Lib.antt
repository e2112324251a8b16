pub mod Reach
pub mod Sets
