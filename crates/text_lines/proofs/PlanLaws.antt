-- The lines of the plans of a page, put one behind the other.
use mathlib.Core.Path.{◌≡◌, sym, ap, ◌∙◌}
use mathlib.Core.List.{List, [], ◌++◌}
use Prim.Native.Nat.{ℕ, suc, ◌+◌, ◌*◌, ◌-◌, ◌≤◌, ◌<◌}
use native.Mathlib.Nat.{zero-mul, suc-mul, mul-le-mul_right}
use native.Mathlib.Numerals.{add-one}
use native.Mathlib.Omega.{arith}
use lib.ListN.{length, take, drop, length-append}
use lib.Seq.{drop-drop}
use Rattle.base_lists.proofs.Stores.{Stores, stores-start, stores-part, stores-end}
use Rattle.text_lines.specs.PlansLines.{plan_line, plan_lines}
use Rattle.text_lines.specs.Pages.{plans_in}
use Rattle.text_lines.specs.steps.Put.{Fits, Put}

-- plan i lies within the page
pub plan-within : (count choices room i : ℕ) → i < count → count * choices ≤ room → i * choices + choices ≤ room
plan-within count choices room i h r =
    let s : suc i * choices ≡ i * choices + choices = suc-mul i choices in
    let m : suc i * choices ≤ count * choices = mul-le-mul_right choices h in
    omega arith

-- the bytes from its start to its end are its choices
plan-window : (choices i : ℕ) (page : List ℕ) → take (i * choices + choices - i * choices) (drop (i * choices) page) ≡ take choices (drop (i * choices) page)
plan-window choices i page =
    let e : i * choices + choices - i * choices ≡ choices = omega arith in
    rw e

module _ (first count choices : ℕ) (page : List ℕ) where
  -- the lines of all plans
  abbrev pub whole : List ℕ
  whole = plan_lines first (plans_in count choices page)

  -- the lines from plan i on
  unfoldable pub lines_from : ℕ → List ℕ
  lines_from i = plan_lines (first + i) (plans_in (count - i) choices (drop (i * choices) page))

  -- the line of plan i
  abbrev pub line_at : ℕ → List ℕ
  line_at i = plan_line (first + i) (take (i * choices + choices - i * choices) (drop (i * choices) page))

  -- from plan 0 on they are all
  from_start : lines_from 0 ≡ whole
  unfolding lines_from
  from_start =
      let a : first + 0 ≡ first = omega arith in
      let b : count - 0 ≡ count = omega arith in
      let z : 0 * choices ≡ 0 = zero-mul choices in
      rw (a, b, z)

  -- the line of plan i, then those behind it
  from_next : (i : ℕ) → i < count → lines_from i ≡ line_at i ++ lines_from (i + 1)
  unfolding lines_from plan_lines plans_in
  from_next i h =
      let e : count - i ≡ suc (count - (i + 1)) = omega arith in
      let d : i * choices + choices ≡ (i + 1) * choices = sym (suc-mul i choices) ∙ ap (λ (k : ℕ). k * choices) (sym (add-one i)) in
      let f : first + i + 1 ≡ first + (i + 1) = omega arith in
      rw (plan-window choices i page, e, drop-drop choices (i * choices) page, d, f)

  -- behind the last plan there is none
  from_end : (i : ℕ) → count ≤ i → lines_from i ≡ []
  unfolding lines_from plan_lines plans_in
  from_end i h = let e : count - i ≡ 0 = omega arith in rw e

  -- the loop at plan i: there is room for all lines, and those before i are put
  pub record Lines (text₀ : List ℕ) (at₀ : ℕ) (text : List ℕ) (at i : ℕ) : Type 0 where
    pub within : i ≤ count
    pub fits : Fits text₀ at₀ whole
    pub stores : Stores text₀ at₀ whole text at (lines_from i)

  -- nothing is put yet
  pub lines_start : (text : List ℕ) (at : ℕ) → Fits text at whole → Lines text at text at 0
  lines_start text at h = record { within = omega arith; fits = h; stores = rw from_start (stores-start text at whole) }

  module _ {text₀ : List ℕ} {at₀ : ℕ} {text : List ℕ} {at i : ℕ} (l : Lines text₀ at₀ text at i) where
    -- the next line fits
    pub lines_fits : i < count → Fits text at (line_at i)
    lines_fits h =
        let a : length (lines_from i) ≡ length (line_at i) + length (lines_from (i + 1)) = ap length (from_next i h) ∙ length-append (line_at i) (lines_from (i + 1)) in
        let f : at₀ + length whole ≤ length text₀ = l.fits in
        let c : at + length (lines_from i) ≡ at₀ + length whole = l.stores.counted in
        let s : length text ≡ length text₀ = l.stores.same in
        omega arith

    -- it is put
    pub lines_part : i < count → {text' : List ℕ} {at' : ℕ} → Put text at (line_at i) text' at' → Lines text₀ at₀ text' at' (i + 1)
    lines_part h w =
        record { within = omega arith; fits = l.fits; stores = stores-part (line_at i) (lines_from (i + 1)) (rw (from_next i h) at l.stores) w.0 w.1 }

    -- all are put
    pub lines_end : count ≤ i → Put text₀ at₀ whole text at
    lines_end h = stores-end (rw (from_end i h) at l.stores)
