-- The lines of a plan's choices, put one behind the other.
use mathlib.Core.Path.{◌≡◌, ap, ◌∙◌}
use mathlib.Core.List.{List, [], ◌++◌}
use Prim.Native.Nat.{ℕ, ◌+◌, ◌≤◌, ◌<◌}
use native.Mathlib.Numerals.{add-one}
use native.Mathlib.Omega.{arith}
use lib.ListN.{length, get_or, drop, length-append, drop_of_length-le}
use lib.Seq.{drop-cons}
use Rattle.base_lists.proofs.Stores.{Stores, stores-start, stores-part, stores-end}
use Rattle.text_lines.specs.steps.Put.{Fits, Put}
use Rattle.text_lines.specs.PlanLines.{choice_line, choice_lines}

module _ (plan : List ℕ) where
  -- the lines from choice i on
  abbrev pub lines_from : ℕ → List ℕ
  lines_from i = choice_lines i (drop i plan)

  -- the line of choice i
  abbrev pub line_at : ℕ → List ℕ
  line_at i = choice_line i (get_or plan i 0)

  -- the line of choice i, then those behind it
  from_next : (i : ℕ) → i < length plan → lines_from i ≡ line_at i ++ lines_from (i + 1)
  unfolding choice_lines
  from_next i h = rw (add-one i, drop-cons plan i 0 h, add-one i)

  -- behind the last choice there is none
  from_end : (i : ℕ) → length plan ≤ i → lines_from i ≡ []
  unfolding choice_lines
  from_end i h = rw (drop_of_length-le plan {i = i} h)

  -- the loop at choice i: there is room for all lines, and those before i are put
  pub record Lines (text₀ : List ℕ) (at₀ : ℕ) (text : List ℕ) (at i : ℕ) : Type 0 where
    pub within : i ≤ length plan
    pub fits : Fits text₀ at₀ (choice_lines 0 plan)
    pub stores : Stores text₀ at₀ (choice_lines 0 plan) text at (lines_from i)

  -- nothing is put yet
  pub lines_start : (text : List ℕ) (at : ℕ) → Fits text at (choice_lines 0 plan) → Lines text at text at 0
  lines_start text at h = record { within = omega arith; fits = h; stores = stores-start text at (choice_lines 0 plan) }

  module _ {text₀ : List ℕ} {at₀ : ℕ} {text : List ℕ} {at i : ℕ} (l : Lines text₀ at₀ text at i) where
    -- the next line fits
    pub lines_fits : i < length plan → Fits text at (line_at i)
    lines_fits h =
        let a : length (lines_from i) ≡ length (line_at i) + length (lines_from (i + 1)) = ap length (from_next i h) ∙ length-append (line_at i) (lines_from (i + 1)) in
        let f : at₀ + length (choice_lines 0 plan) ≤ length text₀ = l.fits in
        let c : at + length (lines_from i) ≡ at₀ + length (choice_lines 0 plan) = l.stores.counted in
        let s : length text ≡ length text₀ = l.stores.same in
        omega arith

    -- it is put
    pub lines_part : i < length plan → {text' : List ℕ} {at' : ℕ} → Put text at (line_at i) text' at' → Lines text₀ at₀ text' at' (i + 1)
    lines_part h w =
        record { within = omega arith; fits = l.fits; stores = stores-part (line_at i) (lines_from (i + 1)) (rw (from_next i h) at l.stores) w.0 w.1 }

    -- all are put
    pub lines_end : length plan ≤ i → Put text₀ at₀ (choice_lines 0 plan) text at
    lines_end h = stores-end (rw (from_end i h) at l.stores)
