-- The highest preference is at most the last level exactly if all are.
use Rattle.roster_check.proofs.HighestLaws.{all-at-most}
use Rattle.roster_check.proofs.judge.preferences_keep.Goals as goal

pub returns : goal.returns
returns c =
    all-at-most _ _ c.highest_given.ensures
