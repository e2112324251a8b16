use mathlib.Core.Path.{◌∙◌}
use native.Mathlib.Omega.{arith}
use Rattle.base_lists.proofs.Through.{all_none, all_done}
use Rattle.roster_rows.specs.Roster.{roster_lent}
use Rattle.roster_rows.proofs.CellLaws.{cells-short}
use Rattle.roster_rows.proofs.KindLaws.{choices-equal, choices_differ, choices-agree}
use Rattle.roster_rows.proofs.assignment.same_choices.Goals as goal

pub tally-ours-requires : goal.tally-ours-requires
tally-ours-requires c =
    cells-short _ _ _ c.cells_of.ensures c.requires.seated.few-slots

pub tally-theirs-requires : goal.tally-theirs-requires
tally-theirs-requires c =
    cells-short _ _ _ c.cells_of-2.ensures c.requires.seated.few-slots

pub loop-choice-init : goal.loop-choice-init
loop-choice-init c =
    all_none _

pub returns-then-ours-choice : goal.returns-then-ours-choice
returns-then-ours-choice c =
    choices_differ _ _ _ c.cells_of.ensures c.cells_of-2.ensures c.tally-ours.ensures c.tally-theirs.ensures _ (omega (arith, c.requires.few-choices, c.loop-choice-test.true)) c.loop-choice-test.true c.if-ours-choice.true

pub loop-choice-preserved : goal.loop-choice-preserved
loop-choice-preserved c =
    choices-agree (roster_lent c.args.roster.now) _ _ c.cells_of.ensures c.cells_of-2.ensures c.tally-ours.ensures c.tally-theirs.ensures _ (omega (arith, c.requires.few-choices, c.loop-choice-test.true)) c.if-ours-choice.false c.loop-choice.invariant

pub returns : goal.returns
returns c =
    all_done _ _ _ (omega arith) c.loop-choice-test.false c.loop-choice.invariant ∙ choices-equal _ _ _
