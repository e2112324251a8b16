use mathlib.Core.Path.{refl, ◌∙◌}
use native.Mathlib.Omega.{arith}
use Rattle.reduce_added.proofs.Pairing.{choosers-none, choosers-countable, choosers-part}
use Rattle.reduce_added.proofs.pairs.write_mandatory_pairs.Goals as goal

pub loop-chooser-init : goal.loop-chooser-init
loop-chooser-init c =
    (refl, refl, c.named-2-1.given, c.mark.ensures, choosers-none _ _)

pub pairs_for-requires : goal.pairs_for-requires
pairs_for-requires c =
    let s = c in
    let l = c.loop-chooser in
    (omega (arith, s.requires.0, l.invariant.0), l.invariant.3, choosers-countable s.args.rows.now l.chooser _ _ _ c.loop-chooser-test.true l.invariant.4.0 s.requires.1)

pub loop-chooser-preserved : goal.loop-chooser-preserved
loop-chooser-preserved c =
    let l = c.loop-chooser in
    let w = c.pairs_for.ensures in
    (c.list-in-loop-chooser-1.given, w.0 ∙ l.invariant.1, l.invariant.2, l.invariant.3, choosers-part _ l.chooser _ _ _ _ _ l.invariant.4 w.1)
