-- The search's test of a critical set, a law for each way through it.
use mathlib.Core.Path.{◌≡◌, refl, sym, ◌∙◌, ap}
use mathlib.Core.Bool.{Bool, true, false, ◌&&◌}
use mathlib.Core.List.{List}
use Prim.Native.Nat.{ℕ, zero, suc, ◌+◌, ◌-◌, ◌≤◌, ◌<◌, ◌^◌}
use native.Mathlib.Omega.{arith}
use borrow.Author.Tests.{le-ltb}
use lib.Bits.{bit_and}
use lib.Dec.{ltb}
use lib.ListN.{length, get_or, take}
use Rattle.std.specs.List.{count_by}
use Rattle.std.proofs.lemmas.List.Sums.{count_by_more_yes, count_by_more_no}
use Rattle.std.proofs.lemmas.List.Recursion.{or_is}
use Rattle.std.proofs.Math.Seq.{take-length}
use Rattle.base_lists.specs.Below.{one, count_below}
use Rattle.base_lists.specs.Keep.{any_of}
use Rattle.base_lists.proofs.Below.{count-more, same_test}
use Rattle.base_lists.proofs.CountBelow.{count_ext}
use Rattle.base_choice_sets.specs.Sets.{has, size_of, meets}
use Rattle.base_choice_sets.specs.Reach.{covered_slots, undecided_members, reach_of, stuck, some_stuck}
use Rattle.base_choice_sets.proofs.SetLaws.{and_has, has-set}

-- a count below a bound with one number more, that is counted or not
pub count-hit : (p : ℕ → Bool) (i n : ℕ) → n ≡ count_below i p → p i ≡ true → n + 1 ≡ count_below (i + 1) p
unfolding one
count-hit p i n e t = rw (count-more p i, t, e)

pub count_miss : (p : ℕ → Bool) (i n : ℕ) → n ≡ count_below i p → p i ≡ false → n ≡ count_below (i + 1) p
unfolding one
count_miss p i n e t = rw (count-more p i, t, e) (omega arith)

-- a count over a list is one over its places
pub count-of : (p : ℕ → Bool) (l : List ℕ) → count_by p l ≡ count_below (length l) λ k. p (get_or l k 0)
unfolding count_below
count-of p l = ap (count_by p) (sym (take-length l)) ∙ first (length l) (omega arith)
  where
    one_more : (n : ℕ) (b : Bool) → n < length l → p (get_or l n 0) ≡ b → count_by p (take n l) ≡ count_below n (λ k. p (get_or l k 0))
        → count_by p (take (n + 1) l) ≡ count_below (n + 1) λ k. p (get_or l k 0)
    one_more n true h t e = count_by_more_yes p l n 0 h t ∙ count-hit (λ k. p (get_or l k 0)) n _ e t
    one_more n false h t e = count_by_more_no p l n 0 h t ∙ count_miss (λ k. p (get_or l k 0)) n _ e t

    first : (n : ℕ) → n ≤ length l → count_by p (take n l) ≡ count_below n λ k. p (get_or l k 0)
    first zero h = refl
    first (suc n) h = let s : n + 1 ≡ suc n = omega arith in rw s at (one_more n (p (get_or l n 0)) (omega arith) refl (first n (omega arith)))

pub covered-of : (slots : List ℕ) (set : ℕ) → count_by (λ slot. meets slot set) slots ≡ covered_slots slots set
unfolding covered_slots
covered-of slots set = count-of (λ slot. meets slot set) slots

-- `size(set & undecided)`
pub undecided_law : (undecided set : ℕ) → undecided < 2 ^ 64 → set < 2 ^ 64 → size_of (bit_and set undecided) ≡ undecided_members undecided set
unfolding size_of undecided_members
undecided_law undecided set h k = below 64 h k
  where
    below : (n : ℕ) → undecided < 2 ^ n → set < 2 ^ n → count_below n (has (bit_and set undecided)) ≡ count_below n λ c. has set c && has undecided c
    below n h k =
        count_ext n (has (bit_and set undecided)) (λ c. has set c && has undecided c) λ c l.
        ap (λ (x : ℕ). has x c) (and_has n set undecided k h) ∙ has-set n (λ c. has set c && has undecided c) c l

module _ (slots : List ℕ) (undecided set : ℕ) where
  -- where the undecided members alone reach every slot, a set isn't stuck; else the covered slots decide
  pub not_stuck : (members : ℕ) → members ≡ undecided_members undecided set → length slots ≤ members → false ≡ stuck slots undecided set
  unfolding stuck reach_of
  not_stuck members e h = sym (le-ltb (covered_slots slots set + undecided_members undecided set) (length slots) (omega arith))

  pub stuck-by : (members covered : ℕ) → members ≡ undecided_members undecided set → covered ≡ covered_slots slots set → members < length slots
      → ltb covered (length slots - members) ≡ stuck slots undecided set
  unfolding stuck reach_of
  stuck-by members covered e f h =
      same_test covered (length slots - members) (covered_slots slots set + undecided_members undecided set) (length slots) (λ l. omega arith) (λ l. omega arith)

-- some set of a list is stuck: by what `any` answers
pub some-of : (slots : List ℕ) (undecided : ℕ) (sets : List ℕ) (r : Bool)
    → (r ≡ true → (i : ℕ) × (i < length sets) × (stuck slots undecided (get_or sets i 0) ≡ true))
    → (r ≡ false → (i : ℕ) → i < length sets → stuck slots undecided (get_or sets i 0) ≡ false)
    → r ≡ some_stuck slots undecided sets
unfolding some_stuck any_of
some-of slots undecided sets r some none = or_is (any_of (stuck slots undecided)) (stuck slots undecided) refl (λ _ _. refl) sets 0 r some none
