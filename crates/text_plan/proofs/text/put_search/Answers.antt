-- A line for each kind of answer of the search.
use mathlib.Core.Path.{refl, ◌∙◌, ap}
use lib.ListN.{replicate}
use Rattle.std.specs.Prelude.{Ok}
use Rattle.text_lines.specs.PlanLines.{answer_text}
use Rattle.text_lines.proofs.PutLaws.{put_as}
use Rattle.text_lines.proofs.PlanLineLaws.{refused-is}
use Rattle.text_plan.proofs.AnswerLaws.{found-told, none_told, turns-told, refused-told}
use Rattle.text_plan.proofs.text.put_search.Goals as goal

pub returns-in-Ok-Found : goal.returns-in-Ok-Found
returns-in-Ok-Found c =
    found-told c.args.day.counts _ _ _ _ _ _ c.plan_counts.ensures c.requires.few (replicate 64 0) refl c.plan_day.ensures (c.in-Ok-Found.is ∙ ap Ok c.in-Ok-Found.field-0-is) _ c.args.text.now c.requires.full c.said.ensures c.put_found.ensures

pub returns-in-Ok-None : goal.returns-in-Ok-None
returns-in-Ok-None c =
    none_told c.args.day.counts _ _ _ _ _ _ c.plan_counts.ensures c.requires.few (replicate 64 0) refl c.plan_day.ensures (c.in-Ok-None.is ∙ ap Ok c.in-Ok-None.field-0-is) c.args.text.now c.requires.full c.said-in-Ok-None.ensures c.put_none.ensures

pub returns-in-Ok-OutOfTurns : goal.returns-in-Ok-OutOfTurns
returns-in-Ok-OutOfTurns c =
    turns-told c.args.day.counts _ _ _ _ _ _ c.plan_counts.ensures c.requires.few (replicate 64 0) refl c.plan_day.ensures (c.in-Ok-OutOfTurns.is ∙ ap Ok c.in-Ok-OutOfTurns.field-0-is) c.args.text.now c.requires.full c.said-in-Ok-OutOfTurns.ensures c.put_turns.ensures

pub returns-in-Err : goal.returns-in-Err
returns-in-Err c =
    let refusal = refused-told c.args.day.counts _ _ _ _ _ _ c.plan_counts.ensures c.requires.few (replicate 64 0) refl c.plan_day.ensures c.in-Err.is in
    put_as _ _ (refused-is _ ∙ ap answer_text refusal) c.put_refusal.ensures
