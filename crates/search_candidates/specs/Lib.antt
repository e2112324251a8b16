pub mod Allow
pub mod Bucket
pub mod Loads
pub mod Tests
pub mod steps
