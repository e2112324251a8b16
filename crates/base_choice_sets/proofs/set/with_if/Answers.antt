-- The choice is to be in the set, or not.
use Rattle.base_choice_sets.proofs.SetLaws.{if_out, if_in}
use Rattle.base_choice_sets.proofs.set.with_if.Goals as goal

pub returns-then-not-inside : goal.returns-then-not-inside
returns-then-not-inside c =
    if_out c.args.set c.args.choice c.args.inside (c.if-not-inside.true)

pub returns : goal.returns
returns c =
    if_in c.args.set c.args.choice _ c.args.inside (c.if-not-inside.false) c.with.ensures
