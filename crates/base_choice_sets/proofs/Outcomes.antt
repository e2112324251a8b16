-- No two outcomes fit: each public promise of this crate is an equation of the answer.
use mathlib.Core.Path.{◌≡◌}
use mathlib.Core.Bool.{Bool}
use mathlib.Core.List.{List}
use Prim.Native.Nat.{ℕ}
use Rattle.base_lists.proofs.Outcome.{no_two}
use Rattle.base_choice_sets.specs.Sets.{has, size_of, within, same_choices, with_choice, meets}
use Rattle.base_choice_sets.specs.Reach.{stuck, some_stuck}

pub one-member : (set choice : ℕ) {a b : Bool} → a ≡ has set choice → b ≡ has set choice → a ≡ b
one-member set choice = no_two

pub one_with : (set choice : ℕ) {a b : ℕ} → a ≡ with_choice set choice → b ≡ with_choice set choice → a ≡ b
one_with set choice = no_two

pub one-is-within : (inner outer : ℕ) {a b : Bool} → a ≡ within inner outer → b ≡ within inner outer → a ≡ b
one-is-within inner outer = no_two

pub one-is-same : (one other : ℕ) {a b : Bool} → a ≡ same_choices one other → b ≡ same_choices one other → a ≡ b
one-is-same one other = no_two

pub one_size : (set : ℕ) {a b : ℕ} → a ≡ size_of set → b ≡ size_of set → a ≡ b
one_size set = no_two

pub one_meet : (one other : ℕ) {a b : Bool} → a ≡ meets one other → b ≡ meets one other → a ≡ b
one_meet one other = no_two

pub one-is-stuck : (slots : List ℕ) (undecided set : ℕ) {a b : Bool} → a ≡ stuck slots undecided set → b ≡ stuck slots undecided set → a ≡ b
one-is-stuck slots undecided set = no_two

pub one-some-stuck : (slots : List ℕ) (undecided : ℕ) (sets : List ℕ) {a b : Bool} → a ≡ some_stuck slots undecided sets → b ≡ some_stuck slots undecided sets → a ≡ b
one-some-stuck slots undecided sets = no_two
