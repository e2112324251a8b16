use mathlib.Core.Path.{refl}
use native.Mathlib.Omega.{arith}
use lib.ListN.{length-set}
use Rattle.base_lists.proofs.Flat.{fill_start, fill_next}
use Rattle.day_file.proofs.fill.put_rows.Goals as goal

pub loop-i-init : goal.loop-i-init
loop-i-init c =
    (refl, fill_start _)

pub loop-i-preserved : goal.loop-i-preserved
loop-i-preserved c =
    (simp length-set c.loop-i.invariant.0, fill_next _ _ _ _ (omega arith) c.loop-i.invariant.1 c.row_at.ensures)
