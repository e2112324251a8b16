use Prim.Native.Nat.{◌≤◌}
use native.Mathlib.Omega.{arith}
use lib.ListN.{length}
use Rattle.base_lists.proofs.Through.{all_none, all_done}
use Rattle.roster_check.specs.Sheet.{sheet_lent}
use Rattle.roster_rows.proofs.CellLaws.{few-cells}
use Rattle.roster_check.proofs.SeatLaws.{seat-fails, seat-fits}
use Rattle.roster_check.proofs.seats.seats_fit.Goals as goal

pub count_seats-seats-requires : goal.count_seats-seats-requires
count_seats-seats-requires c =
    let s = c.requires.seated in
    omega (arith, s.cells, few-cells _ _ s.few-slots s.few-choosers)

pub loop-choice-init : goal.loop-choice-init
loop-choice-init c =
    all_none _

pub returns-then-not-choice_fits : goal.returns-then-not-choice_fits
returns-then-not-choice_fits c =
    let sheet = sheet_lent c.args.sheet.now in
    let few : length sheet.plan ≤ 64 = omega (arith, c.requires.plan-fits, c.requires.few-choices) in
    seat-fails sheet.mins sheet.maxs sheet.plan sheet.roster c.loop-choice.choice c.loop-choice-test.true few c.count_seats-seats.ensures c.choice_fits.ensures (omega (arith, c.loop-choice-test.true, c.requires.plan-fits)) c.if-not-choice_fits.true

pub loop-choice-preserved : goal.loop-choice-preserved
loop-choice-preserved c =
    let sheet = sheet_lent c.args.sheet.now in
    let few : length sheet.plan ≤ 64 = omega (arith, c.requires.plan-fits, c.requires.few-choices) in
    seat-fits sheet.mins sheet.maxs sheet.plan sheet.roster c.loop-choice.choice c.loop-choice-test.true few c.count_seats-seats.ensures c.choice_fits.ensures c.if-not-choice_fits.false c.loop-choice.invariant

pub returns : goal.returns
returns c =
    all_done _ _ _ (omega (arith, c.requires.plan-fits)) (omega (arith, c.requires.plan-fits, c.loop-choice-test.false)) c.loop-choice.invariant
