use mathlib.Core.Path.{◌≡◌, refl, ◌∙◌, ap}
use Prim.Native.Nat.{ℕ, ◌+◌, ◌<◌}
use native.Mathlib.Omega.{arith}
use Rattle.std.proofs.lemmas.List.{get_or-take, length-take-le}
use Rattle.list_rule_tables.specs.steps.SettledFigures.{changed_by}
use Rattle.list_rule_counts.proofs.StepLaws.{counts_start, counts_step, counts-few}
use Rattle.list_rule_counts.proofs.counts.settled_counts.Goals as goal

pub loop-domain-init : goal.loop-domain-init
loop-domain-init c = counts_start _ _ _ c.requires.0 _ refl

pub count_one-requires : goal.count_one-requires
count_one-requires c =
    let n = length-take-le c.args.choices c.args.domains.now (omega (arith, c.requires, c.told-domains)) in
    (c.requires.0, counts-few _ _ _ c.requires.0 _ _ (omega (arith, n, c.loop-domain-test.true, c.requires.1)) c.loop-domain.invariant)

pub loop-domain-preserved : goal.loop-domain-preserved
loop-domain-preserved c =
    let n = length-take-le c.args.choices c.args.domains.now (omega (arith, c.requires, c.told-domains)) in
    let h : c.loop-domain.domain-index < c.args.choices = omega (arith, n, c.loop-domain-test.true) in
    let e = get_or-take c.args.choices c.args.domains.now c.loop-domain.domain-index 0 h in
    counts_step _ _ _ c.requires.0 _ _ _ h c.loop-domain.invariant (c.count_one.ensures ∙ ap (λ (x : ℕ). changed_by c.args.slots (λ count. count + 1) x c.loop-domain.settled) e)

pub returns : goal.returns
returns c =
    let n = length-take-le c.args.choices c.args.domains.now (omega (arith, c.requires, c.told-domains)) in
    let e : c.loop-domain.domain-index ≡ c.args.choices = omega (arith, n, c.loop-domain-test.false, c.loop-domain.auto.domain-index-end) in
    (rw e at c.loop-domain.invariant, counts-few _ _ _ c.requires.0 _ _ (omega (arith, e, c.requires.1)) c.loop-domain.invariant)
