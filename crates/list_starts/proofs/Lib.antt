-- The laws of a start, of the page's end and of what it tells.
pub mod EndLaws
pub mod FullLaws
pub mod OpenLaws
pub mod ReadyLaws
