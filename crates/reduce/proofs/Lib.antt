pub mod Calling
pub mod Filling
pub mod Lists
pub mod Result
pub mod TableKept
