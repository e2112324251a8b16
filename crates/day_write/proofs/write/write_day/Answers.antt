-- The day is judged; a good one's bytes are put.
use mathlib.Core.Path.{refl, ◌∙◌, ap}
use Prim.Native.Nat.{ℕ}
use Rattle.day_rows.specs.Told.{Told, outcome}
use Rattle.day_rows.proofs.ToldLaws.{passed_on}
use Rattle.day_file.specs.FileDay.{file_day_lent}
use Rattle.day_write.proofs.WriteLaws.{write_refused, write_asks, write_good, rows-good}
use Rattle.day_write.proofs.write.write_day.Goals as goal

pub returns-in_err-judge_day : goal.returns-in_err-judge_day
returns-in_err-judge_day c =
    ap (λ (told : Told ℕ). outcome told c.args.pool.now) (passed_on _ _ c.from_residual.ensures.1)
    ∙ write_refused _ _ c.in_err-judge_day.ensures refl

pub put_day-requires : goal.put_day-requires
put_day-requires c =
    let d = file_day_lent c.args.day.now in
    let g = write_asks d c.args.pool.now c.in_ok-judge_day.ensures refl in
    record {
      ranges = g.counts-good;
      lengths = g.lengths-good;
      rows = rows-good d g.lists_are_good;
      room = g.room-good;
    }

pub returns : goal.returns
returns c =
    write_good _ _ c.in_ok-judge_day.ensures refl c.put_day.ensures
