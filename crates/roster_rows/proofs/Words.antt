-- The library's words for a list that is asked through, against the rules' own.
use mathlib.Core.Path.{◌≡◌, refl}
use mathlib.Core.Bool.{Bool, true, false, cond}
use mathlib.Core.List.{List}
use Prim.Native.Nat.{ℕ, ◌+◌}
use Rattle.std.specs.List.{count_by}
use native.Mathlib.Omega.{arith}
use lib.Dec.{eqb}
use Rattle.std.proofs.lemmas.List.Recursion.{is_count_by}
use Rattle.base_lists.specs.Below.{one}
use Rattle.base_lists.specs.Group.{times_in}
use Rattle.base_lists.proofs.Words.{either-way}

-- how many entries are a number, and how often it stands in the list
pub counted : (x : ℕ) (l : List ℕ) → times_in x l ≡ count_by (λ y. eqb y x) l
unfolding times_in one
counted x = is_count_by (times_in x) (λ y. eqb y x) refl λ y l. rw (either-way x y) (go (eqb y x) (times_in x l))
  where
    go : (b : Bool) (n : ℕ) → one b + n ≡ cond b (1 + n) n
    go true n = refl
    go false n = omega arith
