-- The text of the file's day, or of its refusal.
use Rattle.text_lines.specs.PlansLines.{refused}
use Rattle.text_lines.proofs.PlansLineLaws.{refused-is}
use Rattle.text_day.proofs.FileLaws.{day-told, refusal-told, day-given}
use Rattle.text_plans.proofs.DayLaws.{day_puts, answer-refused}
use Rattle.text_plans.proofs.CallLaws.{puts_as}
use Rattle.text_plans.proofs.text.put_plans_of_file.Goals as goal

pub put_day-requires : goal.put_day-requires
put_day-requires c = record { given = day-given (day-told _ c.in-Ok.ensures); room = c.requires.room; full = c.requires.full }

pub returns-in-Ok : goal.returns-in-Ok
returns-in-Ok c = day_puts _ _ _ _ (day-told _ c.in-Ok.ensures) c.put_day.ensures

pub returns-in-Err : goal.returns-in-Err
returns-in-Err c = puts_as (refused _) (refused-is _) (answer-refused _ _ _ _ (refusal-told _ c.in-Err.ensures)) c.put_refusal.ensures
