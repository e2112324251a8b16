-- An entry that is as expected leaves the answer to those after it, and one that isn't says no.
use mathlib.Core.Logic.{inl, inr}
use mathlib.Core.Path.{subst}
use Rattle.std.proofs.Common.{true, false, sym}
use Rattle.test_cases.proofs.ReadingLaws.{Held, agreed-on, agreed-not, agreed-end}
use Rattle.test_cases.proofs.parts.entries_agree_by.Goals as goal
use Rattle.test_cases.proofs.parts.entries_agree_by.Goals.{then-i-n, else-i-n}

pub returns-then-ne : goal.returns-then-ne
returns-then-ne g c =
    let l = c.loop-i in
    let a = c.args in
    let reads = g.R.Reading.MayRead a.reading.now a.bytes.now in
    let e : Held reads a.past l.at a.n l.i c.if-i-n.expected = elim c.if-i-n.branch [
      | then-i-n w ↦ inl (w.if-i-n.true, subst (reads l.at) (sym w.expected-is) w.read-expected.ensures)
      | else-i-n w ↦ inr (w.if-i-n.false, w.expected-is)
    ] in
    l.invariant false (agreed-not _ _ _ _ _ l.i _ _ _ _ c.loop-i-test.true c.index-pool-i.is e c.if-ne.ensures)

pub loop-i-preserved : goal.loop-i-preserved
loop-i-preserved g c told r =
    let l = c.loop-i in
    let a = c.args in
    let reads = g.R.Reading.MayRead a.reading.now a.bytes.now in
    let e : Held reads a.past l.at a.n l.i c.if-i-n.expected = elim c.if-i-n.branch [
      | then-i-n w ↦ inl (w.if-i-n.true, subst (reads l.at) (sym w.expected-is) w.read-expected.ensures)
      | else-i-n w ↦ inr (w.if-i-n.false, w.expected-is)
    ] in
    l.invariant told (agreed-on _ _ _ _ _ l.i _ _ _ _ c.loop-i-test.true c.index-pool-i.is e _ told c.if-ne.ensures c.plus-at.ensures r)

pub returns : goal.returns
returns g c = c.loop-i.invariant true (agreed-end _ _ _ _ _ _ _ _ c.loop-i-test.false)
