-- A decision and its taking back, on the sums and counts of a state, and the code's steps.
use mathlib.Core.Path.{◌≡◌, refl, sym, ◌∙◌, subst}
use mathlib.Core.Bool.{Bool, true, false}
use mathlib.Core.List.{List}
use Prim.Native.Nat.{ℕ, ◌+◌, ◌-◌, ◌*◌, ◌≤◌, ◌<◌, ◌^◌}
use native.Mathlib.Omega.{arith}
use borrow.Author.Tests.{le-ltb, le-leb, lt-leb, ne_eqb, leb-true, leb-false}
use lib.Dec.{leb}
use lib.ListN.{length, get_or, set, length-set}
use Rattle.base_lists.proofs.Lists.{get_d_any}
use Rattle.search_turn.specs.declared.state.SearchState.{SearchState}
use Rattle.search_pass.proofs.Counted.{Counted, Known, Moved, CanDecide, CanClear, WentDown, WentBack}
use Rattle.search_turn.specs.steps.State.{more_of, with_depth, decided_of, cleared_of, down_of, back_of}
use Rattle.search_pass.proofs.LoadLaws.{listed, decided_in, decided-out, cleared_in, cleared-out, listed-fits, sums-listed, counts-listed}

-- the state with other decisions and sums
abbrev pub state_of : SearchState → List ℕ → List ℕ → List ℕ → List ℕ → SearchState
state_of state decisions slot_min slot_max sizes =
    record {
      decisions = decisions;
      slot_min = slot_min;
      slot_max = slot_max;
      sizes = sizes;
      depth = state.depth;
      is_new = state.is_new;
      remaining = state.remaining;
    }

-- one list of sums
module _ (amount : ℕ → ℕ) (d sums : List ℕ) (c : ℕ) (h : c < length d) (e : sums ≡ listed amount d) where
  sums_in : (x a : ℕ) → get_or d c 254 ≡ 254 → x < 24 → a ≡ amount c → set sums x (get_or sums x 0 + a) ≡ listed amount (set d c x)
  sums_in x a u b q = rw (e, q) (sym (decided_in amount d c h x u b))

  sums-out : (x : ℕ) → get_or d c 254 ≡ 254 → 24 ≤ x → sums ≡ listed amount (set d c x)
  sums-out x u b = e ∙ sym (decided-out amount d c h x u b)

  sums-back : (x a : ℕ) → x ≡ get_or d c 254 → x < 24 → a ≡ amount c → set sums x (get_or sums x 0 - a) ≡ listed amount (set d c 254)
  sums-back x a u b q = rw (e, q) (sym (cleared_in amount d c h x u b))

  sums-back-out : 24 ≤ get_or d c 254 → sums ≡ listed amount (set d c 254)
  sums-back-out b = e ∙ sym (cleared-out amount d c h b)

-- a sum with one amount more fits 32 bits
sums-fit : (amount : ℕ → ℕ) (d sums : List ℕ) (x a : ℕ) → length d ≡ 64 → sums ≡ listed amount d → ((k : ℕ) → amount k ≤ 65535) → x < 24 → a ≤ 65535 → get_or sums x 0 + a < 2 ^ 32
sums-fit amount d sums x a l e f b q =
    let s : get_or sums x 0 ≤ 65535 * 64 = rw e (listed-fits amount d x l f b) in
    omega arith

module _ (mins maxs : List ℕ) (state : SearchState) (choice : ℕ) (k : Known mins maxs choice) (s : Counted mins maxs state) where
  there : choice < length state.decisions
  there = omega (arith, k.few, s.entries)

  min-listed : state.slot_min ≡ listed (λ k. get_or mins k 0) state.decisions
  min-listed = s.min-sums ∙ sums-listed mins state.decisions

  max-listed : state.slot_max ≡ listed (λ k. get_or maxs k 0) state.decisions
  max-listed = s.max-sums ∙ sums-listed maxs state.decisions

  sizes-listed : state.sizes ≡ listed (λ k. 1) state.decisions
  sizes-listed = s.counts ∙ counts-listed state.decisions

  -- three lists of sums make a state that is counted
  made_of : (place : ℕ) (slot_min slot_max sizes : List ℕ) → slot_min ≡ listed (λ k. get_or mins k 0) (set state.decisions choice place)
      → slot_max ≡ listed (λ k. get_or maxs k 0) (set state.decisions choice place) → sizes ≡ listed (λ k. 1) (set state.decisions choice place)
      → Moved mins maxs state choice place state.depth state.is_new state.remaining (state_of state (set state.decisions choice place) slot_min slot_max sizes)
  made_of place slot_min slot_max sizes a b c =
      record {
        decisions = refl;
        counted =
            record {
              entries = length-set state.decisions choice place ∙ s.entries;
              min-sums = a ∙ sym (sums-listed mins (set state.decisions choice place));
              max-sums = b ∙ sym (sums-listed maxs (set state.decisions choice place));
              counts = c ∙ sym (counts-listed (set state.decisions choice place));
            };
        deep = refl;
        newness = refl;
        remains = refl;
      }

  -- the byte as the code reads it
  pub byte-is : get_or state.decisions choice 0 ≡ get_or state.decisions choice 254
  byte-is = get_d_any state.decisions choice 0 254 there

  -- ---- decided

  module _ (u : get_or state.decisions choice 254 ≡ 254) (place : ℕ) where
    pub moved_in : (a b : ℕ) → place < 24 → a ≡ get_or mins choice 0 → b ≡ get_or maxs choice 0
        → Moved mins maxs state choice place state.depth state.is_new state.remaining (state_of state (set state.decisions choice place) (set state.slot_min place (get_or state.slot_min place 0 + a))
        (set state.slot_max place (get_or state.slot_max place 0 + b)) (set state.sizes place (get_or state.sizes place 0 + 1)))
    moved_in a b h ea eb =
        made_of place _ _ _ (sums_in (λ k. get_or mins k 0) _ _ choice there min-listed place a u h ea) (sums_in (λ k. get_or maxs k 0) _ _ choice there max-listed place b u h eb)
        (sums_in (λ k. 1) _ _ choice there sizes-listed place 1 u h refl)

    pub moved_out : 24 ≤ place → Moved mins maxs state choice place state.depth state.is_new state.remaining (state_of state (set state.decisions choice place) state.slot_min state.slot_max state.sizes)
    moved_out h =
        made_of place _ _ _ (sums-out (λ k. get_or mins k 0) _ _ choice there min-listed place u h) (sums-out (λ k. get_or maxs k 0) _ _ choice there max-listed place u h)
        (sums-out (λ k. 1) _ _ choice there sizes-listed place u h)

  -- sums that grow fit
  pub min-fits : (place a : ℕ) → ((i : ℕ) → get_or mins i 0 ≤ 65535) → place < 24 → a ≤ 65535 → get_or state.slot_min place 0 + a < 2 ^ 32
  min-fits place a f h b = sums-fit (λ k. get_or mins k 0) _ _ place a s.entries min-listed f h b

  pub max-fits : (place a : ℕ) → ((i : ℕ) → get_or maxs i 0 ≤ 65535) → place < 24 → a ≤ 65535 → get_or state.slot_max place 0 + a < 2 ^ 32
  max-fits place a f h b = sums-fit (λ k. get_or maxs k 0) _ _ place a s.entries max-listed f h b

  pub size_fits : (place : ℕ) → place < 24 → get_or state.sizes place 0 + 1 < 2 ^ 32
  size_fits place h = sums-fit (λ k. 1) _ _ place 1 s.entries sizes-listed (λ k. omega arith) h (omega arith)

  -- ---- taken back

  pub back_in : (place a b : ℕ) → place ≡ get_or state.decisions choice 0 → place < 24 → a ≡ get_or mins choice 0 → b ≡ get_or maxs choice 0
      → Moved mins maxs state choice 254 state.depth state.is_new state.remaining (state_of state (set state.decisions choice 254) (set state.slot_min place (get_or state.slot_min place 0 - a))
      (set state.slot_max place (get_or state.slot_max place 0 - b)) (set state.sizes place (get_or state.sizes place 0 - 1)))
  back_in place a b e h ea eb =
      made_of 254 _ _ _ (sums-back (λ k. get_or mins k 0) _ _ choice there min-listed place a (e ∙ byte-is) h ea)
      (sums-back (λ k. get_or maxs k 0) _ _ choice there max-listed place b (e ∙ byte-is) h eb)
      (sums-back (λ k. 1) _ _ choice there sizes-listed place 1 (e ∙ byte-is) h refl)

  pub back-out : 24 ≤ get_or state.decisions choice 0 → Moved mins maxs state choice 254 state.depth state.is_new state.remaining (state_of state (set state.decisions choice 254) state.slot_min state.slot_max state.sizes)
  back-out h =
      let b : 24 ≤ get_or state.decisions choice 254 = omega (arith, byte-is) in
      made_of 254 _ _ _ (sums-back-out (λ k. get_or mins k 0) _ _ choice there min-listed b) (sums-back-out (λ k. get_or maxs k 0) _ _ choice there max-listed b)
      (sums-back-out (λ k. 1) _ _ choice there sizes-listed b)

-- ---- the code's sums are these

-- an amount that fits is added whole
pub more-fits : (sum amount : ℕ) → sum + amount < 2 ^ 32 → more_of sum amount ≡ sum + amount
unfolding more_of
more-fits sum amount h = rw (le-ltb (2 ^ 32 - 1 - sum) amount (omega arith))

module _ (mins maxs : List ℕ) (state : SearchState) (choice : ℕ) (k : Known mins maxs choice) (s : Counted mins maxs state)
    (fm : (i : ℕ) → get_or mins i 0 ≤ 65535) (fx : (i : ℕ) → get_or maxs i 0 ≤ 65535) where
  module _ (u : get_or state.decisions choice 254 ≡ 254) (place : ℕ) where
    code-decided-out : 24 ≤ place → decided_of state choice place (get_or mins choice 0) (get_or maxs choice 0) ≡ state_of state (set state.decisions choice place) state.slot_min state.slot_max state.sizes
    unfolding decided_of
    code-decided-out h = rw (lt-leb 64 choice k.few, le-leb _ _ h)

    code-decided_in : place < 24
        → decided_of state choice place (get_or mins choice 0) (get_or maxs choice 0)
        ≡ state_of state (set state.decisions choice place) (set state.slot_min place (get_or state.slot_min place 0 + get_or mins choice 0))
        (set state.slot_max place (get_or state.slot_max place 0 + get_or maxs choice 0)) (set state.sizes place (get_or state.sizes place 0 + 1))
    unfolding decided_of
    code-decided_in h =
        rw (
          lt-leb 64 choice k.few,
          lt-leb 24 place h,
          more-fits _ _ (min-fits mins maxs state choice k s place (get_or mins choice 0) fm h (fm choice)),
          more-fits _ _ (max-fits mins maxs state choice k s place (get_or maxs choice 0) fx h (fx choice)),
          more-fits _ _ (size_fits mins maxs state choice k s place h),
        )

    pub decided-moved : Moved mins maxs state choice place state.depth state.is_new state.remaining (decided_of state choice place (get_or mins choice 0) (get_or maxs choice 0))
    decided-moved = go (leb 24 place) refl
      where
        go : (b : Bool) → leb 24 place ≡ b
            → Moved mins maxs state choice place state.depth state.is_new state.remaining (decided_of state choice place (get_or mins choice 0) (get_or maxs choice 0))
        go true e =
            let h : 24 ≤ place = leb-true _ _ e in
            subst (λ (z : SearchState). Moved mins maxs state choice place state.depth state.is_new state.remaining z) (sym (code-decided-out h)) (moved_out mins maxs state choice k s u place h)
        go false e =
            let h : place < 24 = leb-false _ _ e in
            subst (λ (z : SearchState). Moved mins maxs state choice place state.depth state.is_new state.remaining z) (sym (code-decided_in h))
            (moved_in mins maxs state choice k s u place (get_or mins choice 0) (get_or maxs choice 0) h refl refl)

  code-cleared-out : 24 ≤ get_or state.decisions choice 0
      → cleared_of state choice (get_or mins choice 0) (get_or maxs choice 0) ≡ state_of state (set state.decisions choice 254) state.slot_min state.slot_max state.sizes
  unfolding cleared_of
  code-cleared-out h = rw (lt-leb 64 choice k.few, le-leb _ _ h)

  code-cleared_in : get_or state.decisions choice 0 < 24
      → cleared_of state choice (get_or mins choice 0) (get_or maxs choice 0)
      ≡ state_of state (set state.decisions choice 254)
      (set state.slot_min (get_or state.decisions choice 0) (get_or state.slot_min (get_or state.decisions choice 0) 0 - get_or mins choice 0))
      (set state.slot_max (get_or state.decisions choice 0) (get_or state.slot_max (get_or state.decisions choice 0) 0 - get_or maxs choice 0))
      (set state.sizes (get_or state.decisions choice 0) (get_or state.sizes (get_or state.decisions choice 0) 0 - 1))
  unfolding cleared_of
  code-cleared_in h = rw (lt-leb 64 choice k.few, lt-leb _ _ h)

  pub cleared-moved : Moved mins maxs state choice 254 state.depth state.is_new state.remaining (cleared_of state choice (get_or mins choice 0) (get_or maxs choice 0))
  cleared-moved = go (leb 24 (get_or state.decisions choice 0)) refl
    where
      go : (b : Bool) → leb 24 (get_or state.decisions choice 0) ≡ b
          → Moved mins maxs state choice 254 state.depth state.is_new state.remaining (cleared_of state choice (get_or mins choice 0) (get_or maxs choice 0))
      go true e =
          let h : 24 ≤ get_or state.decisions choice 0 = leb-true _ _ e in
          subst (λ (z : SearchState). Moved mins maxs state choice 254 state.depth state.is_new state.remaining z) (sym (code-cleared-out h)) (back-out mins maxs state choice k s h)
      go false e =
          let h : get_or state.decisions choice 0 < 24 = leb-false _ _ e in
          subst (λ (z : SearchState). Moved mins maxs state choice 254 state.depth state.is_new state.remaining z) (sym (code-cleared_in h))
          (back_in mins maxs state choice k s (get_or state.decisions choice 0) (get_or mins choice 0) (get_or maxs choice 0) refl h refl refl)

-- ---- a step

-- depth and rest are no matter to sums and counts
placed : (mins maxs : List ℕ) (state after : SearchState) (choice place : ℕ) (depth remaining : ℕ) (new : Bool) (depth' remaining' : ℕ) (new' : Bool)
    → Moved mins maxs state choice place depth new remaining after → Moved mins maxs state choice place depth' new' remaining' (with_depth after depth' new' remaining')
placed mins maxs state after choice place depth remaining new depth' remaining' new' m =
    record {
      decisions = m.decisions;
      counted = record { entries = m.counted.entries; min-sums = m.counted.min-sums; max-sums = m.counted.max-sums; counts = m.counted.counts };
      deep = refl;
      newness = refl;
      remains = refl;
    }

module _ (mins maxs order : List ℕ) (state : SearchState) (fm : (i : ℕ) → get_or mins i 0 ≤ 65535) (fx : (i : ℕ) → get_or maxs i 0 ≤ 65535) where
  pub went_down : (place : ℕ) → CanDecide mins maxs order state → WentDown mins maxs order state place (down_of mins maxs order state place)
  unfolding down_of
  went_down place k =
      let choice = get_or order state.depth 0 in
      placed mins maxs state (decided_of state choice place (get_or mins choice 0) (get_or maxs choice 0)) choice place state.depth state.remaining state.is_new
      (state.depth + 1) (state.remaining - get_or maxs choice 0) true (decided-moved mins maxs state choice k.known k.counted fm fx k.undecided place)

  back_is : CanClear mins maxs order state
      → back_of mins maxs order state
      ≡ with_depth (cleared_of state (get_or order (state.depth - 1) 0) (get_or mins (get_or order (state.depth - 1) 0) 0) (get_or maxs (get_or order (state.depth - 1) 0) 0)) (state.depth - 1) false
      (state.remaining + get_or maxs (get_or order (state.depth - 1) 0) 0)
  unfolding back_of
  back_is k = rw (ne_eqb state.depth 0 (λ z. omega (arith, k.above)), more-fits _ _ k.fits)

  pub went_back : CanClear mins maxs order state → WentBack mins maxs order state (back_of mins maxs order state)
  went_back k =
      let choice = get_or order (state.depth - 1) 0 in
      subst (λ (z : SearchState). WentBack mins maxs order state z) (sym (back_is k))
      (placed mins maxs state (cleared_of state choice (get_or mins choice 0) (get_or maxs choice 0)) choice 254 state.depth state.remaining state.is_new
      (state.depth - 1) (state.remaining + get_or maxs choice 0) false (cleared-moved mins maxs state choice k.known k.counted fm fx))
