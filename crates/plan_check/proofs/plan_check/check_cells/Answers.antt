-- The two tests in the definition's order.
use mathlib.Core.Bool.{true}
use mathlib.Core.Path.{◌≡◌, sym, ◌∙◌}
use borrow.Author.Rules.{rules}
use Rattle.plan_check.proofs.CheckLaws.{bad_cell, bad_flag, good-cells}
use Rattle.plan_check.proofs.plan_check.check_cells.Goals as goal

pub returns-then-not-cells : goal.returns-then-not-cells
returns-then-not-cells c =
    bad_cell _ _ _ (sym c.cells_known-cells.ensures ∙ c.if-not-cells.true)

pub returns-then-not-flags : goal.returns-then-not-flags
returns-then-not-flags c =
    let known : c.cells_known-cells.result ≡ true = search rules in
    bad_flag _ _ _ (sym c.cells_known-cells.ensures ∙ known) (sym c.flags_fit-flags.ensures ∙ c.if-not-flags.true)

pub returns : goal.returns
returns c =
    good-cells _ _ _ (sym c.cells_known-cells.ensures ∙ c.if-not-cells.false) (sym c.flags_fit-flags.ensures ∙ c.if-not-flags.false)
