-- A pool that is too short stays as it is; in any other there is room.
use mathlib.Core.Path.{◌≡◌, ◌∙◌}
use mathlib.Core.List.{◌++◌}
use borrow.Author.Rules.{rules}
use Rattle.text_lines.specs.Text.{ascii}
use Rattle.text_lines.specs.Put.{pool_lent}
use Rattle.text_lines.specs.Putting.{put_whole}
use Rattle.text_lines.proofs.PutLaws.{put_some, fits_front, puts_front}
use Rattle.text_lines.specs.PlanLines.{turns, figures_text}
use Rattle.text_lines.proofs.PlanLineLaws.{turns-is}
use Rattle.text_lines.proofs.PlanFitLaws.{answer-room}
use Rattle.text_lines.proofs.PuttingLaws.{whole-short, whole-put, fits_as, puts_as}
use Rattle.text_lines.proofs.plan_lines.put_turns.Goals as goal

pub returns-then-text-lt-LONGEST_TEXT : goal.returns-then-text-lt-LONGEST_TEXT
returns-then-text-lt-LONGEST_TEXT c = whole-short _ _ c.if-text-lt-LONGEST_TEXT.true

pub put_figures-requires : goal.put_figures-requires
put_figures-requires c =
    let a = c.args in
    let figures = a.figures in
    fits_front c.new-text.ensures.front (ascii "result turns\n" ++ figures_text figures.turns figures.passes figures.limit)
    (fits_as a.text.now (turns-is figures.turns figures.passes figures.limit) (answer-room (turns figures.turns figures.passes figures.limit) a.text.now tt c.if-text-lt-LONGEST_TEXT.false))

pub returns : goal.returns
returns c =
    let a = c.args in
    let figures = a.figures in
    let said = turns figures.turns figures.passes figures.limit in
    let put : pool_lent c.put_figures.new.text ≡ put_whole a.text.now said =
    put_some a.text.now 0 _ (answer-room said a.text.now tt c.if-text-lt-LONGEST_TEXT.false)
    (puts_as a.text.now (turns-is figures.turns figures.passes figures.limit) (puts_front c.new-text.ensures.front (ascii "result turns\n" ++ figures_text figures.turns figures.passes figures.limit) c.put_figures.ensures.put))
    ∙ whole-put a.text.now said c.if-text-lt-LONGEST_TEXT.false in
    search rules
