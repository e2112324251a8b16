-- Laws of the rule: each way through the code, and that a feasible plan stays within.
pub mod EnoughPlaces
pub mod FigureLaws
pub mod FillLaws
pub mod RuleLaws
pub mod SettledLaws
pub mod WithinLaws
