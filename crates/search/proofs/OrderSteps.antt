-- The order of a pass: each choice's number of looked-up rows, and the places that are filled by it.
use mathlib.Core.Path.{◌≡◌, sym, ◌∙◌, ap}
use mathlib.Core.Bool.{cond}
use mathlib.Core.List.{List, ◌++◌}
use Prim.Native.Nat.{ℕ, ◌+◌, ◌≤◌, ◌<◌, min}
use native.Mathlib.Omega.{arith}
use borrow.Author.Tests.{le-leb}
use lib.Dec.{leb}
use lib.ListN.{length, get_or, set, take, drop, length-set, length-drop, length-append}
use lib.Seq.{take_at, take_all, length-take-le}
use Rattle.base_lists.specs.Flat.{list_below}
use Rattle.base_lists.proofs.Flat.{fill_start, fill_next, fill_done}
use Rattle.search_map.specs.Map.{Map, looked_up}
use Rattle.search_order.specs.Order.{pass_order}
use Rattle.search_order.proofs.OrderLaws.{pass-length}
use Rattle.search.specs.steps.LevelPass.{rows_found}

-- ---- each choice's number of looked-up rows

module _ (entries : Map) (whole : List ℕ) where
  abbrev found : ℕ → ℕ
  found choice = min (length (looked_up entries whole choice)) 65535

  -- the first of the counts are written
  pub record CountedTo (i : ℕ) (counted : List ℕ) : Type 0 where
    pub places : length counted ≡ 64
    pub within : i ≤ 64
    pub so_far : take i counted ≡ list_below i (λ choice. min (length (looked_up entries whole choice)) 65535)

  pub counted_start : (counted : List ℕ) → 64 ≡ length counted → CountedTo 0 counted
  counted_start counted e = record { places = sym e; within = omega arith; so_far = fill_start found }

  pub counted_next : (i : ℕ) (counted : List ℕ) {count : ℕ} → i < 64 → CountedTo i counted → count ≡ min (length (looked_up entries whole i)) 65535 → CountedTo (i + 1) (set counted i count)
  counted_next i counted {count} h f e =
      record {
        places = length-set counted i count ∙ f.places;
        within = omega arith;
        so_far = fill_next found counted i count (rw f.places h) f.so_far e;
      }

  pub counted-done : (i : ℕ) (counted : List ℕ) → 64 ≤ i → CountedTo i counted → counted ≡ rows_found entries whole
  unfolding rows_found
  counted-done i counted h f =
      sym (take_all 64 counted (rw f.places (omega arith)))
      ∙ fill_done found counted 64 i f.within h f.so_far

-- ---- the order

-- the order stands in the first places
pub order-first : (choices : ℕ) (orders : List ℕ) (entries : Map) (whole : List ℕ) {counted : List ℕ} (pass : ℕ) (places part : List ℕ) → choices ≤ 64 → counted ≡ rows_found entries whole
    → part ≡ cond (leb (length (take choices places)) 64) (pass_order (length (take choices places)) orders (λ choice. get_or counted choice 0) pass) (take choices places)
    → 64 ≡ length places
    → (length (part ++ drop choices places) ≡ 64) × (take choices (part ++ drop choices places) ≡ pass_order choices orders (λ choice. get_or (rows_found entries whole) choice 0) pass)
order-first choices orders entries whole {counted} pass places part h c e l =
    let n : length (take choices places) ≡ choices = length-take-le choices places (omega arith) in
    let f : part ≡ pass_order choices orders (λ choice. get_or counted choice 0) pass = e ∙ rw (n, le-leb _ _ h) in
    let m : length part ≡ choices = ap length f ∙ pass-length choices orders (λ choice. get_or counted choice 0) pass in (
      length-append part (drop choices places) ∙ rw (m, length-drop) (omega arith),
      take_at part (drop choices places) choices m ∙ f ∙ ap (λ (x : List ℕ). pass_order choices orders (λ choice. get_or x choice 0) pass) c,
    )
