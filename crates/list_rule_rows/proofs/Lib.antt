-- The laws of the rows' rules: what the code does to numbers, and that plans stay within what is left.
pub mod MoveLaws
pub mod RowLaws
pub mod RowsLaws
pub mod SideLaws
