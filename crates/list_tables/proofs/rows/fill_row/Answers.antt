use mathlib.Core.Path.{ap, refl}
use Prim.Native.Nat.{ℕ, ◌+◌}
use native.Mathlib.Omega.{arith}
use borrow.Author.Rules.{rules}
use Rattle.list_tables.specs.steps.Tables.{written}
use Rattle.list_tables.proofs.TableLaws.{row_step}
use Rattle.list_tables.proofs.rows.fill_row.Goals as goal

pub loop-lack-init : goal.loop-lack-init
unfolding written
loop-lack-init c =
    search rules

pub loop-lack-preserved : goal.loop-lack-preserved
loop-lack-preserved c =
    row_step c.args.width _ _ _ _ _ _ _ _ _ _ c.loop-lack.invariant (omega (arith, c.loop-lack-test.true, c.requires.0.1)) refl c.saturating_sub.ensures (ap (λ (x : ℕ). c.args.weight + x) c.from.ensures) c.smaller_entry.ensures
