use mathlib.Core.Path.{◌≡◌, sym, ◌∙◌}
use mathlib.Core.Logic.{⊎_elim}
use Prim.Native.Nat.{ℕ}
use native.Mathlib.Omega.{arith}
use lib.ListN.{get_or}
use Rattle.reduce_union_find.proofs.Writing.{written_none, groups-take, groups_skip, groups-count, at-fits, members-length, ends-length, groups-done}
use Rattle.reduce_union_find.proofs.write_groups.Goals as goal

pub loop-root-init : goal.loop-root-init
loop-root-init c = written_none _ _ _ _ c.requires.2 c.requires.3

pub write_class-at-requires : goal.write_class-at-requires
write_class-at-requires c =
    let a = c in
    let l = c.loop-root in
    let f : ℕ → ℕ = λ k. get_or a.args.roots.now k 0 in
    let w = l.invariant in
    (a.requires.0, a.requires.1, members-length _ _ f _ _ _ _ a.requires.1 w, at-fits _ _ f _ _ _ _ a.requires.1 w)

pub overflow_cast-ends : goal.overflow_cast-ends
overflow_cast-ends c =
    let a = c in
    let l = c.loop-root in
    let f : ℕ → ℕ = λ k. get_or a.args.roots.now k 0 in
    let w = l.invariant in
    omega (arith, c.write_class-at.ensures.0, at-fits _ _ f _ _ _ _ a.requires.1 w)

pub bounds-ends-count : goal.bounds-ends-count
bounds-ends-count c =
    let a = c in
    let l = c.loop-root in
    let f : ℕ → ℕ = λ k. get_or a.args.roots.now k 0 in
    let w = l.invariant in
    rw (ends-length _ _ f _ _ _ _ a.requires.1 w (omega arith)) (omega (arith, groups-count _ _ f _ _ _ _ a.requires.1 w))

pub overflow_add-count : goal.overflow_add-count
overflow_add-count c =
    let a = c in
    let l = c.loop-root in
    let f : ℕ → ℕ = λ k. get_or a.args.roots.now k 0 in
    let w = l.invariant in
    omega (arith, groups-count _ _ f _ _ _ _ a.requires.1 w)

pub loop-root-preserved : goal.loop-root-preserved
loop-root-preserved c =
    let a = c in
    let l = c.loop-root in
    let f : ℕ → ℕ = λ k. get_or a.args.roots.now k 0 in
    let w = l.invariant in
    let e = c.from.ensures in
    let lt = c.loop-root-test.true in
    ⊎_elim
    (λ t. rw (t.members-is, t.ends-is, t.count-is, t.at-is) (groups-take _ _ f _ _ _ _ a.requires.1 w lt (sym e ∙ t.if-from-root.true) _ _ t.write_class-at.ensures.0 t.write_class-at.ensures.1))
    (λ t. rw (t.members-is, t.ends-is, t.count-is, t.at-is) (groups_skip _ _ f _ _ _ _ a.requires.1 w (λ z. t.if-from-root.false (e ∙ z))))
    c.if-from-root.branch-raw

pub returns : goal.returns
returns c =
    let a = c in
    let l = c.loop-root in
    let f : ℕ → ℕ = λ k. get_or a.args.roots.now k 0 in
    let w = l.invariant in
    let e : l.root ≡ a.args.choices = omega arith in
    groups-done _ f _ _ _ _ (rw e at w)
