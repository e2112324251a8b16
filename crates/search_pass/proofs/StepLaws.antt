-- A turn as the code makes it is a step down or a step back.
use mathlib.Core.Path.{◌≡◌, sym, ◌∙◌, ap, subst}
use mathlib.Core.List.{List}
use Prim.Native.Nat.{ℕ, ◌+◌, ◌≤◌, ◌<◌}
use borrow.Author.Tests.{le-ltb, le-leb, lt-leb}
use lib.ListN.{get_or, set}
use Rattle.search_turn.specs.declared.state.SearchState.{SearchState}
use Rattle.search_turn.specs.steps.State.{down_of, back_of, Turning, turning, turn_of}
use Rattle.search_pass.proofs.Counted.{WentDown, WentBack}
use Rattle.search_pass.proofs.Turning.{TurnReady, Turned}
use Rattle.search_pass.proofs.StateLaws.{went_down, went_back}

module _ (mins maxs order : List ℕ) (state : SearchState) (pool next end : List ℕ) (k : TurnReady mins maxs order state next end) where
  turn-down : get_or next state.depth 0 < get_or end state.depth 0
      → turn_of mins maxs order state pool next end ≡ turning (down_of mins maxs order state (get_or pool (get_or next state.depth 0) 0)) (set next state.depth (get_or next state.depth 0 + 1))
  unfolding turn_of
  turn-down h = rw (le-ltb 64 state.depth k.few, lt-leb _ _ h, lt-leb 1625 _ (k.there h))

  turn-back : get_or end state.depth 0 ≤ get_or next state.depth 0 → turn_of mins maxs order state pool next end ≡ turning (back_of mins maxs order state) next
  unfolding turn_of
  turn-back h = rw (le-ltb 64 state.depth k.few, le-leb _ _ h)

  pub turned_of : (after : SearchState) (next' : List ℕ) → ((i : ℕ) → get_or mins i 0 ≤ 65535) → ((i : ℕ) → get_or maxs i 0 ≤ 65535)
      → turning after next' ≡ turn_of mins maxs order state pool next end → Turned mins maxs order state pool next end after next'
  turned_of after next' fm fx w =
      record {
        down = λ h.
            let z = w ∙ turn-down h in (
              ap (λ (t : Turning). t.next) z,
              subst (λ (s : SearchState). WentDown mins maxs order state (get_or pool (get_or next state.depth 0) 0) s) (sym (ap (λ (t : Turning). t.state) z))
                  (went_down mins maxs order state fm fx (get_or pool (get_or next state.depth 0) 0) (k.down h)),
            );
        back = λ h.
            let z = w ∙ turn-back h in (
              ap (λ (t : Turning). t.next) z,
              subst (λ (s : SearchState). WentBack mins maxs order state s) (sym (ap (λ (t : Turning). t.state) z)) (went_back mins maxs order state fm fx (k.back h)),
            );
      }
