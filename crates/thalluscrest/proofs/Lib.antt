-- That a call tells in other languages what the library's own call answers and leaves, where a reduction's
-- pool is cut, and that no two outcomes fit, of a page those in time.
pub mod CrossingLaws
pub mod Outcomes
pub mod PageOutcomes
pub mod ReducedLists
