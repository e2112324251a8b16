use mathlib.Core.Path.{◌≡◌, sym, ◌∙◌}
use native.Mathlib.Omega.{arith}
use lib.ListN.{length}
use Rattle.list_decided.proofs.LastLaws.{front-passes, front_ends, front-whole}
use Rattle.list_decided.proofs.last.front_of.Goals as goal

pub loop-front-init : goal.loop-front-init
loop-front-init c = omega arith

pub returns-then-last_of-choice : goal.returns-then-last_of-choice
returns-then-last_of-choice c =
    let l = c.loop-front in
    (front_ends _ _ _ l.front _ c.loop-front-test.true c.last_of.ensures c.if-last_of-choice.true ∙ l.invariant, omega arith)

pub loop-front-preserved : goal.loop-front-preserved
loop-front-preserved c = let l = c.loop-front in sym (front-passes _ _ _ l.front _ c.loop-front-test.true c.last_of.ensures c.if-last_of-choice.false) ∙ l.invariant

pub returns : goal.returns
returns c =
    let l = c.loop-front in
    let e : length c.args.rows.now ≡ l.front = omega (arith, c.loop-front-test.false) in
    (e ∙ front-whole _ _ _ l.front 0 c.loop-front-test.false ∙ l.invariant, omega arith)
