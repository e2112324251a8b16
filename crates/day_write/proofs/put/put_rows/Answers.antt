use mathlib.Core.Path.{refl, ◌∙◌}
use lib.ListN.{get_or}
use Rattle.base_lists.proofs.Stores.{sets-start, sets_join}
use Rattle.day_file.specs.File.{row_bytes}
use Rattle.day_file.proofs.FileLaws.{length-row}
use Rattle.day_write.proofs.put.put_rows.Goals as goal

pub loop-i-init : goal.loop-i-init
loop-i-init c =
    (refl, sets-start _ _ _)

pub loop-i-preserved : goal.loop-i-preserved
loop-i-preserved c =
    let s = c in
    (c.put_row.auto.pool ∙ c.loop-i.invariant.0, sets_join 6 (λ k. row_bytes (get_or s.args.rows.now k 0)) (λ k. length-row (get_or s.args.rows.now k 0)) _ _ _ c.loop-i.invariant.1 c.put_row.ensures)
