pub mod Made
pub mod Prepared
pub mod Reading
pub mod steps
