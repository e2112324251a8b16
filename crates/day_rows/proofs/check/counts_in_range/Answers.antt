-- Each early return has one count over its limit and those before it within theirs.
use mathlib.Core.Path.{◌∙◌, ap}
use Prim.Native.Nat.{ℕ}
use lib.Dec.{leb}
use Rattle.day_rows.proofs.CheckLaws.{many-choices, many-slots, many-choosers, rows_decide}
use Rattle.day_rows.proofs.check.counts_in_range.Goals as goal

pub returns-then-counts-gt64 : goal.returns-then-counts-gt64
returns-then-counts-gt64 c =
    many-choices _ _ c.if-counts-gt64.true

pub returns-then-counts-gt24 : goal.returns-then-counts-gt24
returns-then-counts-gt24 c =
    many-slots _ _ c.if-counts-gt64.false c.if-counts-gt24.true

pub returns-then-counts-gt200 : goal.returns-then-counts-gt200
returns-then-counts-gt200 c =
    many-choosers _ _ c.if-counts-gt64.false c.if-counts-gt24.false c.if-counts-gt200.true

pub returns : goal.returns
returns c =
    ap (λ (n : ℕ). leb c.args.counts.rows n) c.most_rows.ensures ∙ rows_decide _ _ c.if-counts-gt64.false c.if-counts-gt24.false c.if-counts-gt200.false
