-- The laws of the writer, and of writing and reading.
pub mod RoundTrip
pub mod WriteLaws
