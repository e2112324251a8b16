-- Settled: both sums of its place; free: it must stand nowhere.
use mathlib.Core.Path.{sym, ◌∙◌}
use Rattle.list_rule_slots.proofs.SumLaws.{free_adds}
use Rattle.list_rule_slots.proofs.slot_sums.add_choice.Goals as goal

pub add_settled-requires : goal.add_settled-requires
add_settled-requires c =
    let p = c.requires in
    (p.0, sym c.is_settled.ensures ∙ c.if-is_settled.true, p.1, p.2, p.3)

pub returns : goal.returns
returns c =
    (free_adds _ _ _ _ (sym c.is_settled.ensures ∙ c.if-is_settled.false), c.add_free.ensures)
