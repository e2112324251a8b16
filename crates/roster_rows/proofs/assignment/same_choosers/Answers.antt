use mathlib.Core.Path.{◌∙◌}
use native.Mathlib.Omega.{arith}
use Rattle.base_lists.proofs.Through.{all_none, all_done}
use Rattle.roster_rows.specs.Roster.{roster_lent}
use Rattle.roster_rows.proofs.KindLaws.{choosers-equal, choosers_differ, choosers-agree}
use Rattle.roster_rows.proofs.assignment.same_choosers.Goals as goal

pub loop-chooser-init : goal.loop-chooser-init
loop-chooser-init c =
    all_none _

pub returns-then-times_in : goal.returns-then-times_in
returns-then-times_in c =
    choosers_differ _ _ _ _ _ c.cells_of-cells.ensures c.times_in.ensures c.times_in-in-loop-chooser.ensures c.loop-chooser-test.true c.if-times_in.true

pub loop-chooser-preserved : goal.loop-chooser-preserved
loop-chooser-preserved c =
    choosers-agree (roster_lent c.args.roster.now) _ _ _ _ c.cells_of-cells.ensures c.times_in.ensures c.times_in-in-loop-chooser.ensures c.if-times_in.false c.loop-chooser.invariant

pub returns : goal.returns
returns c =
    all_done _ _ _ (omega arith) c.loop-chooser-test.false c.loop-chooser.invariant ∙ choosers-equal _ _ _
