-- The text of the file's day, or of its refusal.
use mathlib.Core.Path.{◌∙◌}
use Rattle.text_lines.proofs.PutLaws.{put_as}
use Rattle.text_lines.proofs.PlanLineLaws.{refused-is}
use Rattle.text_day.proofs.FileLaws.{day-told, refusal-told, day-given}
use Rattle.text_plan.proofs.AnswerLaws.{answer-refused, day-answer}
use Rattle.text_plan.proofs.CallLaws.{text-of}
use Rattle.text_plan.proofs.text.put_plan_of_file.Goals as goal

pub put_day-requires : goal.put_day-requires
put_day-requires c = record { given = day-given (day-told _ c.in-Ok.ensures); full = c.requires }

pub returns-in-Ok : goal.returns-in-Ok
returns-in-Ok c = put_as _ _ (text-of c.args.file.now (day-answer _ (day-told _ c.in-Ok.ensures))) c.put_day.ensures

pub returns-in-Err : goal.returns-in-Err
returns-in-Err c = put_as _ _ (refused-is _ ∙ text-of c.args.file.now (answer-refused _ (refusal-told _ c.in-Err.ensures))) c.put_refusal.ensures
