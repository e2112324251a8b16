use mathlib.Core.Path.{◌≡◌, ◌∙◌, ap}
use Prim.Native.Nat.{ℕ, ◌+◌, ◌<◌, min}
use native.Mathlib.Omega.{arith}
use Rattle.std.proofs.lemmas.List.{get_or-take, length-take-le}
use Rattle.list_rule_counts.proofs.WantLaws.{need-start, need-step}
use Rattle.list_rule_counts.proofs.wants.need_of.Goals as goal

pub loop-want-init : goal.loop-want-init
loop-want-init c =
    need-start c.args.wants.now

pub loop-want-preserved : goal.loop-want-preserved
loop-want-preserved c =
    let n = length-take-le c.args.slots c.args.wants.now (omega (arith, c.requires, c.told-wants)) in
    let h : c.loop-want.want-index < c.args.slots = omega (arith, n, c.loop-want-test.true) in
    let e = get_or-take c.args.slots c.args.wants.now c.loop-want.want-index 0 h in
    need-step c.args.wants.now _ _ _ c.loop-want.invariant (c.with_want-need.ensures ∙ ap (λ (x : ℕ). min (c.loop-want.need + x) 65) e)

pub returns : goal.returns
returns c =
    let n = length-take-le c.args.slots c.args.wants.now (omega (arith, c.requires, c.told-wants)) in
    let e : c.loop-want.want-index ≡ c.args.slots = omega (arith, n, c.loop-want-test.false, c.loop-want.auto.want-index-end) in
    rw e at c.loop-want.invariant
