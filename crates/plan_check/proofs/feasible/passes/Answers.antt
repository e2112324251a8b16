-- The three passes, each with what the one before it handed on.
use mathlib.Core.Path.{◌∙◌}
use Rattle.plan_check.proofs.SumLaws.{places_say, slots_say}
use Rattle.plan_check.proofs.FeasibleLaws.{bad_places, bad_sums, rows_decide}
use Rattle.plan_check.proofs.feasible.passes.Goals as goal

pub returns-then-not-add_up : goal.returns-then-not-add_up
returns-then-not-add_up c =
    bad_places _ _ (places_say c.add_up.ensures (c.if-not-add_up.true))

pub returns-then-not-slots_fit : goal.returns-then-not-slots_fit
returns-then-not-slots_fit c =
    let a = c.add_up.ensures in
    let t = c.if-not-add_up.false in
    bad_sums _ _ (places_say a t) (slots_say a _ t c.slots_fit.ensures (c.if-not-slots_fit.true))

pub keeps_rows-requires : goal.keeps_rows-requires
keeps_rows-requires c =
    c.add_up.ensures.counted (c.if-not-add_up.false)

pub returns : goal.returns
returns c =
    let a = c.add_up.ensures in
    let t = c.if-not-add_up.false in
    c.keeps_rows.ensures ∙ rows_decide _ _ (places_say a t) (slots_say a _ t c.slots_fit.ensures (c.if-not-slots_fit.false))
