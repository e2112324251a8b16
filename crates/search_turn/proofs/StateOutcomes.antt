-- No two outcomes fit what a turn's functions promise.
use mathlib.Core.Path.{◌≡◌, ap}
use mathlib.Core.Bool.{Bool}
use mathlib.Core.List.{List}
use Prim.Native.Nat.{ℕ}
use Rattle.base_lists.proofs.Outcome.{no_two}
use Rattle.search_turn.specs.steps.State.{closes_at, Turning, turning, turn_of}
use Rattle.search_turn.specs.declared.state.SearchState.{SearchState}

pub one_closing : (depth : ℕ) (next end : List ℕ) {a b : Bool} → a ≡ closes_at depth next end → b ≡ closes_at depth next end → a ≡ b
one_closing depth next end = no_two

-- a turn leaves one state, and one list of where candidates go on
pub one-turn : (mins maxs order : List ℕ) (state : SearchState) (pool next end : List ℕ) {s t : SearchState} {p q : List ℕ}
    → turning s p ≡ turn_of mins maxs order state pool next end → turning t q ≡ turn_of mins maxs order state pool next end → (s ≡ t) × (p ≡ q)
one-turn mins maxs order state pool next end a b =
    let e = no_two a b in
    (ap (λ (u : Turning). u.state) e, ap (λ (u : Turning). u.next) e)
