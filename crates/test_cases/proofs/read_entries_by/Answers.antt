-- Each turn reads one entry more.
use Rattle.std.proofs.Common.{refl, arith, rules}
use Rattle.test_cases.proofs.ReadingLaws.{read-none, read-more}
use Rattle.test_cases.proofs.read_entries_by.Goals as goal

pub loop-x-init : goal.loop-x-init
loop-x-init g c = let none = read-none (g.R.Reading.MayRead c.args.reading.now c.args.bytes.now) c.args.size c.args.from in (refl, none.0, none.1)

pub loop-x-preserved : goal.loop-x-preserved
loop-x-preserved g c =
    let l = c.loop-x in
    let more = read-more (g.R.Reading.MayRead c.args.reading.now c.args.bytes.now) c.args.size c.args.from _ _ l.x-index l.entries _ (omega (arith, c.loop-x-test.true, l.invariant.0)) l.invariant.1 c.plus-at.ensures c.read.ensures l.invariant.2 in
    (search rules, more.0, more.1)
