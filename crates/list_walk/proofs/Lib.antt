-- The laws of the walk: one for each way through its functions.
pub mod CallLaws
pub mod InLaws
pub mod NextLaws
pub mod SafeEyes
pub mod StandLaws
pub mod StillLaws
pub mod SumsLaws
pub mod WalkLaws
