-- Sums, decisions and steps, for each way through the code.
use mathlib.Core.Path.{◌≡◌, refl, ap}
use mathlib.Core.Bool.{Bool, true, false, cond}
use mathlib.Core.List.{List}
use Prim.Native.Nat.{ℕ, ◌+◌, ◌-◌, ◌≤◌, ◌<◌, ◌^◌, min}
use native.Mathlib.Omega.{arith}
use borrow.Author.Tests.{ltb-true, ltb-false, le-leb, lt-leb, eq-eqb, ne_eqb}
use lib.Dec.{ltb, leb}
use lib.ListN.{get_or, set}
use Rattle.search_turn.specs.declared.state.SearchState.{SearchState}
use Rattle.search_turn.specs.steps.State.{more_of, more_at, less_at, put_at, slot_at, with_depth, decided_of, cleared_of, down_of, back_of}

-- a sum that saturates
pub more_is : (sum amount : ℕ) → sum < 2 ^ 32 → min (sum + amount) (2 ^ 32 - 1) ≡ more_of sum amount
unfolding more_of
more_is sum amount h = go (ltb (2 ^ 32 - 1 - sum) amount) refl
  where
    go : (over : Bool) → ltb (2 ^ 32 - 1 - sum) amount ≡ over → min (sum + amount) (2 ^ 32 - 1) ≡ cond over (2 ^ 32 - 1) (sum + amount)
    go true e = omega (arith, ltb-true _ _ e)
    go false e = omega (arith, ltb-false _ _ e)

module _ (sums : List ℕ) (slot amount : ℕ) where
  pub more-past : 24 ≤ slot → sums ≡ more_at sums slot amount
  unfolding more_at
  more-past h = rw (le-leb _ _ h)

  pub more-at : (sum : ℕ) → slot < 24 → sum ≡ more_of (get_or sums slot 0) amount → set sums slot sum ≡ more_at sums slot amount
  unfolding more_at
  more-at sum h e = rw (lt-leb 24 slot h, e)

  pub less-past : 24 ≤ slot → sums ≡ less_at sums slot amount
  unfolding less_at
  less-past h = rw (le-leb _ _ h)

  pub less-at : (sum : ℕ) → slot < 24 → sum ≡ get_or sums slot 0 - amount → set sums slot sum ≡ less_at sums slot amount
  unfolding less_at
  less-at sum h e = rw (lt-leb 24 slot h, e)

module _ (decisions : List ℕ) (choice place : ℕ) where
  pub put-past : 64 ≤ choice → decisions ≡ put_at decisions choice place
  unfolding put_at
  put-past h = rw (le-leb _ _ h)

  pub put-at : choice < 64 → set decisions choice place ≡ put_at decisions choice place
  unfolding put_at
  put-at h = rw (lt-leb 64 choice h)

module _ (choice place : ℕ) where
  pub slot-past : 64 ≤ choice → 24 ≡ slot_at choice place
  unfolding slot_at
  slot-past h = rw (le-leb _ _ h)

  pub slot-at : choice < 64 → place ≡ slot_at choice place
  unfolding slot_at
  slot-at h = rw (lt-leb 64 choice h)

-- a state by its parts
abbrev pub state_of : List ℕ → List ℕ → List ℕ → List ℕ → ℕ → Bool → ℕ → SearchState
state_of decisions mins maxs sizes depth new remaining =
    record {
      decisions = decisions;
      slot_min = mins;
      slot_max = maxs;
      sizes = sizes;
      depth = depth;
      is_new = new;
      remaining = remaining;
    }

-- what is changed part by part is the choice decided, and the choice cleared
module _ (state : SearchState) (choice : ℕ) where
  pub decided-parts : (place min max : ℕ) (past none : Bool) → leb 64 choice ≡ past → leb 24 place ≡ none
      → state_of (put_at state.decisions choice place) (more_at state.slot_min (slot_at choice place) min) (more_at state.slot_max (slot_at choice place) max) (more_at state.sizes (slot_at choice place) 1) state.depth state.is_new state.remaining
      ≡ decided_of state choice place min max
  unfolding decided_of put_at slot_at more_at
  decided-parts place min max true none e f = rw e
  decided-parts place min max false true e f = rw (e, f)
  decided-parts place min max false false e f = rw (e, f)

  pub cleared-parts : (min max : ℕ) (past none : Bool) → leb 64 choice ≡ past → leb 24 (get_or state.decisions choice 0) ≡ none
      → state_of (put_at state.decisions choice 254) (less_at state.slot_min (slot_at choice (get_or state.decisions choice 0)) min) (less_at state.slot_max (slot_at choice (get_or state.decisions choice 0)) max) (less_at state.sizes (slot_at choice (get_or state.decisions choice 0)) 1) state.depth state.is_new state.remaining
      ≡ cleared_of state choice min max
  unfolding cleared_of put_at slot_at less_at
  cleared-parts min max true none e f = rw e
  cleared-parts min max false true e f = rw (e, f)
  cleared-parts min max false false e f = rw (e, f)

module _ (mins maxs order : List ℕ) (state : SearchState) where
  pub down_is : (place choice min max slot rest : ℕ) (decisions a b n : List ℕ) → choice ≡ get_or order state.depth 0 → max ≡ get_or maxs choice 0 → decisions ≡ put_at state.decisions choice place
      → slot ≡ slot_at choice place → min ≡ get_or mins choice 0 → a ≡ more_at state.slot_min slot min → b ≡ more_at state.slot_max slot max → n ≡ more_at state.sizes slot 1 → rest ≡ state.remaining - max
      → state_of decisions a b n (state.depth + 1) true rest ≡ down_of mins maxs order state place
  unfolding down_of
  down_is place choice min max slot rest decisions a b n ec ex ed es em ea eb en er =
      rw (ed, ea, eb, en, er, es, em, ex, ec)
      (ap (λ (s : SearchState). with_depth s (state.depth + 1) true (state.remaining - get_or maxs (get_or order state.depth 0) 0)) (decided-parts state (get_or order state.depth 0) place (get_or mins (get_or order state.depth 0) 0) (get_or maxs (get_or order state.depth 0) 0) _ _ refl refl))

  pub back_none : state.depth ≡ 0 → state ≡ back_of mins maxs order state
  unfolding back_of
  back_none h = rw (eq-eqb _ _ h)

  pub back_is : (choice min max slot rest : ℕ) (decisions a b n : List ℕ) → (state.depth ≡ 0 → ⊥) → choice ≡ get_or order (state.depth - 1) 0 → max ≡ get_or maxs choice 0 → decisions ≡ put_at state.decisions choice 254
      → slot ≡ slot_at choice (get_or state.decisions choice 0) → min ≡ get_or mins choice 0 → a ≡ less_at state.slot_min slot min → b ≡ less_at state.slot_max slot max → n ≡ less_at state.sizes slot 1
      → rest ≡ more_of state.remaining max → state_of decisions a b n (state.depth - 1) false rest ≡ back_of mins maxs order state
  unfolding back_of
  back_is choice min max slot rest decisions a b n z ec ex ed es em ea eb en er =
      rw (ne_eqb state.depth 0 z, ed, ea, eb, en, er, es, em, ex, ec)
      (ap (λ (s : SearchState). with_depth s (state.depth - 1) false (more_of state.remaining (get_or maxs (get_or order (state.depth - 1) 0) 0))) (cleared-parts state (get_or order (state.depth - 1) 0) (get_or mins (get_or order (state.depth - 1) 0) 0) (get_or maxs (get_or order (state.depth - 1) 0) 0) _ _ refl refl))
