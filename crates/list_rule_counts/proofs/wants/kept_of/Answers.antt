-- A choice that isn't free keeps its domain.
use Rattle.list_rule_counts.proofs.WantLaws.{kept-all, kept-some}
use Rattle.list_rule_counts.proofs.wants.kept_of.Goals as goal

pub returns-then-not-free : goal.returns-then-not-free
returns-then-not-free c =
    kept-all _ _ _ (c.if-not-free.true)

pub returns : goal.returns
returns c =
    kept-some _ _ _ _ (c.if-not-free.false) c.both.ensures
