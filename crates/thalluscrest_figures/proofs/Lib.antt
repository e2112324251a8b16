-- The laws of the figures: a refusal's, and the counts of a reduction's lists; and that no two answers fit.
pub mod FigureLaws
pub mod KindLaws
