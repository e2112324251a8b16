-- A choice that takes a place and leaves it again, with any numbers: only a slot of a day that has at most 24
-- has a sum to change.
use Rattle.std.specs.Prelude.{◌≡◌, ℕ, ◌+◌, ◌-◌, ◌%◌, ◌^◌, ◌<◌, Bool, cond, ◌&&◌, List, nat_le, nat_lt, slice_index, slice_set}
use Rattle.list_nodes.specs.steps.Walk.{place_of}

-- the place has a sum
unfoldable pub has_sum : ℕ → ℕ → Bool
has_sum slots at = nat_le slots 24 && nat_lt at slots

-- the plan with the choice at a place
unfoldable pub put_at : ℕ → ℕ → ℕ → List ℕ → List ℕ
put_at slots choice at plan = cond (nat_le slots 24) (slice_set plan choice (place_of slots at)) plan

-- the sums with an amount more at a place; they are numbers of 64 bits
unfoldable pub added_at : ℕ → ℕ → ℕ → List ℕ → List ℕ
added_at slots at amount sums = cond (has_sum slots at) (slice_set sums at ((slice_index sums at + amount) % 2 ^ 64)) sums

-- the sums with an amount taken away at a place
unfoldable pub taken_at : ℕ → ℕ → ℕ → List ℕ → List ℕ
taken_at slots at amount sums = cond (has_sum slots at) (slice_set sums at (slice_index sums at - amount)) sums

-- a choice has taken the place with so many left, and brings its amounts there
pub record Taken (slots choice left : ℕ) (mins maxs plan plan' sums sums' fills fills' : List ℕ)
    (at least most : ℕ) : Type 0 where
  pub place : at ≡ slots - (left - 1)
  pub minimum : least ≡ slice_index mins choice
  pub maximum : most ≡ slice_index maxs choice
  pub low : (least < 2 ^ 16) × (most < 2 ^ 16)
  pub placed : plan' ≡ put_at slots choice at plan
  pub summed : sums' ≡ added_at slots at least sums
  pub filled : fills' ≡ added_at slots at most fills

-- a choice has left its place, and has taken its amounts away there
pub record LeftPlace (slots at least most : ℕ) (sums sums' fills fills' : List ℕ) : Type 0 where
  pub summed : sums' ≡ taken_at slots at least sums
  pub filled : fills' ≡ taken_at slots at most fills
