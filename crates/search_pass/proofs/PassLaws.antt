-- What a caller of a pass is told.
use mathlib.Core.Path.{◌≡◌, refl, sym, ◌∙◌, ap}
use mathlib.Core.Bool.{true, false}
use mathlib.Core.List.{List}
use Prim.Native.Nat.{ℕ}
use Rattle.search_rules.specs.Pass.{Lent, pass_of}
use Rattle.search_pass.specs.steps.Call.{Ended, found, without, wanting, passed_tells, Leaves, leaves, left_by, pass_fits, pass_leaves}
use Rattle.search_pass.specs.declared.pass.Passed.{Passed}
use Rattle.search_pass.specs.declared.pass.Passed.TheVariants as passed

-- what a pass takes is walked
pub pass-taken : (lent : Lent) (budget draw : ℕ) (plan : List ℕ) → pass_fits lent plan ≡ true → pass_leaves lent budget draw plan ≡ left_by lent plan (pass_of lent budget draw)
unfolding pass_leaves
pass-taken lent budget draw plan e = rw e

-- what a pass doesn't take has no plan, and leaves everything as it was
pub pass-refused : (lent : Lent) (budget draw : ℕ) (plan : List ℕ) → pass_fits lent plan ≡ false → pass_leaves lent budget draw plan ≡ leaves (without budget draw) plan
unfolding pass_leaves
pass-refused lent budget draw plan e = rw e

-- how a pass ended, read back from what is told
abbrev passed_back : Ended → Passed
passed_back (found left draw) = passed.Found left draw
passed_back (without left draw) = passed.Without left draw
passed_back (wanting draw) = passed.Wanting draw

pub passed-back : (answer : Passed) → passed_back (passed_tells answer) ≡ answer
passed-back (passed.Found left draw) = refl
passed-back (passed.Without left draw) = refl
passed-back (passed.Wanting draw) = refl

-- no two answers: what is told and the plan are settled by what is lent, the budget and the draw
pub pass-settled : (lent : Lent) (budget draw : ℕ) (plan : List ℕ) {a b : Passed} {exit other : List ℕ}
    → leaves (passed_tells a) exit ≡ pass_leaves lent budget draw plan → leaves (passed_tells b) other ≡ pass_leaves lent budget draw plan → (a ≡ b) × (exit ≡ other)
pass-settled lent budget draw plan {a} {b} p q =
    let z = p ∙ sym q in
    (sym (passed-back a) ∙ ap (λ (l : Leaves). passed_back l.ended) z ∙ passed-back b, ap (λ (l : Leaves). l.plan) z)
