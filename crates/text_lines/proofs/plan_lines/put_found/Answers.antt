-- A plan too long or a pool too short isn't put; any other has room.
use mathlib.Core.Path.{◌≡◌, ◌∙◌}
use mathlib.Core.List.{◌++◌}
use native.Mathlib.Omega.{arith}
use borrow.Author.Rules.{rules}
use Rattle.text_lines.specs.Text.{ascii}
use Rattle.text_lines.specs.Put.{pool_lent}
use Rattle.text_lines.specs.Putting.{put_found}
use Rattle.text_lines.specs.steps.Put.{Fits}
use Rattle.text_lines.proofs.PutLaws.{fits-first, fits_next, put_both, put_some, fits_front, puts_front}
use Rattle.text_lines.specs.PlanLines.{found, figures_text, choice_lines, answer_text}
use Rattle.text_lines.proofs.PlanLineLaws.{found-is}
use Rattle.text_lines.proofs.PlanFitLaws.{answer-room}
use Rattle.text_lines.proofs.PuttingLaws.{found-over, found-short, found-put}
use Rattle.text_lines.proofs.plan_lines.put_found.Goals as goal
use Rattle.text_lines.proofs.plan_lines.put_found.Goals.{Else-text-lt-LONGEST_TEXT}

pub returns-then-plan-gt-MOST_CHOICES : goal.returns-then-plan-gt-MOST_CHOICES
returns-then-plan-gt-MOST_CHOICES c = found-over _ _ _ _ _ c.if-plan-gt-MOST_CHOICES.true

pub returns-then-text-lt-LONGEST_TEXT : goal.returns-then-text-lt-LONGEST_TEXT
returns-then-text-lt-LONGEST_TEXT c = found-short _ _ _ _ _ c.if-plan-gt-MOST_CHOICES.false c.if-text-lt-LONGEST_TEXT.true

-- the whole text has room
room : (c : Else-text-lt-LONGEST_TEXT)
    → Fits c.args.text.now 0 (answer_text (found c.args.figures.turns c.args.figures.passes c.args.figures.limit c.args.plan.now))
room c =
    let a = c.args in
    answer-room (found a.figures.turns a.figures.passes a.figures.limit a.plan.now) a.text.now
    (record { few = c.if-plan-gt-MOST_CHOICES.false; bytes = λ choice h. let b = c.type_inv.plan choice in omega (arith, b) })
    c.if-text-lt-LONGEST_TEXT.false

pub put_figures-requires : goal.put_figures-requires
put_figures-requires c =
    let a = c.args in
    let figures = a.figures in
    fits_front c.new-text.ensures.front (ascii "result found\n" ++ figures_text figures.turns figures.passes figures.limit)
    (fits-first a.text.now 0 _ (ascii "result found\n" ++ figures_text figures.turns figures.passes figures.limit) _ (found-is figures.turns figures.passes figures.limit a.plan.now) (room (goal.at.put_figures-requires c).Else-text-lt-LONGEST_TEXT))

pub put_choices-requires : goal.put_choices-requires
put_choices-requires c =
    let a = c.args in
    let figures = a.figures in
    fits_next a.text.now 0 _ (ascii "result found\n" ++ figures_text figures.turns figures.passes figures.limit) (choice_lines 0 a.plan.now) (found-is figures.turns figures.passes figures.limit a.plan.now) (room (goal.at.put_choices-requires c).Else-text-lt-LONGEST_TEXT)
    (puts_front c.new-text.ensures.front (ascii "result found\n" ++ figures_text figures.turns figures.passes figures.limit) c.put_figures.ensures.put)

pub returns : goal.returns
returns c =
    let a = c.args in
    let figures = a.figures in
    let put : pool_lent c.put_choices.new.text ≡ put_found a.text.now figures.turns figures.passes figures.limit a.plan.now =
    put_some a.text.now 0 _ (room (goal.at.returns c).Else-text-lt-LONGEST_TEXT)
    (put_both a.text.now 0 _ (ascii "result found\n" ++ figures_text figures.turns figures.passes figures.limit) (choice_lines 0 a.plan.now) (found-is figures.turns figures.passes figures.limit a.plan.now) (puts_front c.new-text.ensures.front (ascii "result found\n" ++ figures_text figures.turns figures.passes figures.limit) c.put_figures.ensures.put) c.put_choices.ensures.put)
    ∙ found-put a.text.now figures.turns figures.passes figures.limit a.plan.now c.if-plan-gt-MOST_CHOICES.false c.if-text-lt-LONGEST_TEXT.false in
    search rules
