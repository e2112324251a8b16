use mathlib.Core.Path.{◌≡◌, refl, ◌∙◌, ap}
use mathlib.Core.List.{List, ◌++◌}
use Prim.Native.Nat.{ℕ}
use lib.ListN.{drop, replicate}
use borrow.Author.Rules.{rules}
use Rattle.list_rule_tables.proofs.SettledLaws.{lacks-filled, lacks-start, lacks-step, lacks-end}
use native.Mathlib.Omega.{arith}
use Rattle.list_rule_tables.proofs.figures.each_lack.Goals as goal

pub loop-choice-init : goal.loop-choice-init
loop-choice-init c =
    let f : c.fill.new.self ≡ replicate c.args.day.now.counts.slots c.args.day.now.counts.choosers = search rules in
    lacks-start _ _ _ _ _ c.requires.0 _ _ refl (ap (λ (l : List ℕ). l ++ drop c.args.day.now.counts.slots (replicate 24 0)) f ∙ lacks-filled c.args.day.now.counts.choosers c.args.day.now.counts.slots (replicate 24 0) (omega (arith, c.requires.0)))

pub loop-choice-preserved : goal.loop-choice-preserved
loop-choice-preserved c =
    lacks-step _ _ _ _ _ c.requires.0 _ _ _ c.loop-choice-test.true c.loop-choice.invariant c.bring.ensures

pub returns : goal.returns
returns c =
    lacks-end _ _ _ _ _ c.requires.0 _ _ (omega (arith, c.loop-choice-test.false, c.loop-choice.auto.choice-end)) c.loop-choice.invariant
