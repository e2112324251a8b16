use mathlib.Core.Path.{◌≡◌, refl, sym, ◌∙◌}
use native.Mathlib.Omega.{arith}
use Rattle.base_lists.specs.Below.{all_below}
use Rattle.base_lists.proofs.Below.{all_more}
use Rattle.reduce_union_find.proofs.Entry.{taken-over, taken_unsound, taken-sound}
use Rattle.reduce_union_find.proofs.UnionFind.is_taken.Goals as goal

pub returns-then-choices-gt64 : goal.returns-then-choices-gt64
returns-then-choices-gt64 c = sym (taken-over _ _ c.if-choices-gt64.true)

pub loop-i-init : goal.loop-i-init
unfolding all_below
loop-i-init c = refl

pub returns-then-not-is_sound : goal.returns-then-not-is_sound
returns-then-not-is_sound c = sym (taken_unsound _ _ _ c.loop-i-test.true (sym c.is_sound.ensures ∙ c.if-not-is_sound.true))

pub loop-i-preserved : goal.loop-i-preserved
loop-i-preserved c = all_more _ _ c.loop-i.invariant (sym c.is_sound.ensures ∙ c.if-not-is_sound.false)

pub returns : goal.returns
returns c =
    let e : c.loop-i.i ≡ c.args.choices = omega arith in
    sym (taken-sound _ _ c.if-choices-gt64.false (rw e at c.loop-i.invariant))
