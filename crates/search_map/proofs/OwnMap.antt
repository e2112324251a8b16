-- The own map as a map: it is never refused as one, and what is looked up in it are the choice's rows.
use mathlib.Core.Path.{◌≡◌, refl, sym, ◌∙◌, ap}
use mathlib.Core.Bool.{true}
use mathlib.Core.List.Memᴰ
use mathlib.Core.List.{List, ◌++◌, append_assoc, Memᴰ}
use mathlib.Core.Logic.{⊎_elim}
use Prim.Native.Nat.{ℕ, zero, suc, ◌+◌, ◌-◌, ◌≤◌, ◌<◌}
use native.Mathlib.Decide.{ℕ_discrete}
use native.Mathlib.Nat.{not-suc-le-zero}
use native.Mathlib.Omega.{arith}
use borrow.Author.Tests.{lt-ltb, le-leb, ne_eqb, leb-true}
use lib.Dec.{ltb, leb}
use lib.ListN.{length, get_or, replicate, length-append}
use lib.Seq.{take_at, drop_at}
use Rattle.base_lists.specs.Flat.{list_below, join_below}
use Rattle.base_lists.specs.Pool.{pad, window}
use Rattle.base_lists.proofs.Below.{and_both, each_all}
use Rattle.base_lists.proofs.Flat.{get_d_list}
use Rattle.base_lists.proofs.Lists.{get_d_any}
use Rattle.base_lists.proofs.Pad.{pad-at, length-pad}
use Rattle.base_lists.proofs.Partition.{kept, keeps, get_d_in}
use Rattle.day_rows.specs.Row.{row_of}
use Rattle.day_rows.specs.Told.{done, refused, Verdict, good, unless, Outcome, outcome, judged}
use Rattle.day_rows.specs.declared.check.Counts.{Counts}
use Rattle.day_rows.proofs.ToldLaws.{done-is, refused-not-done, unless-done}
use Rattle.search_map.specs.Map.{Map, map_of, no_entry, concerns, start_of, length_of, has_entry, looked_up, entry_fits, is_whole, map_keeps, own_entry, own_numbers, own_starts, own_lengths}
use Rattle.search_map.specs.Calls.{in_pools, own_judged, own_pools, own_counted, own_map_of}
use Rattle.search_map.specs.steps.Filling.{PoolsFull}
use Rattle.search_map.proofs.Filling.{pools-few, starts_fit, own-given}

-- ---- the entries

module _ (rows : List ℕ) where
  -- a choice's entry has the numbers of its rows, and no other
  pub own-member : (choice i : ℕ) → Memᴰ i (own_entry rows choice) → (i < length rows) × (concerns choice (row_of (get_or rows i 0)) ≡ true)
  unfolding own_entry
  own-member choice i m = kept (length rows) (λ k. concerns choice (row_of (get_or rows k 0))) i m

  pub member-own : (choice i : ℕ) → i < length rows → concerns choice (row_of (get_or rows i 0)) ≡ true → Memᴰ i (own_entry rows choice)
  unfolding own_entry
  member-own choice i h e = keeps (length rows) (λ k. concerns choice (row_of (get_or rows k 0))) i h e

  -- every number of the own map names a row
  pub number-names : (choices i : ℕ) → Memᴰ i (own_numbers rows choices) → i < length rows
  unfolding own_numbers join_below
  number-names zero i m = absurd (Memᴰ.not-nil m)
  number-names (suc n) i m =
      ⊎_elim (λ k. number-names n i k) (λ k. (own-member n i k).0) (Memᴰ.append_cases (join_below n (own_entry rows)) m)

  -- each entry ends within the numbers
  pub entry-ends : (choices choice : ℕ) → choice < choices → length (own_numbers rows choice) + length (own_entry rows choice) ≤ length (own_numbers rows choices)
  unfolding own_numbers join_below
  entry-ends zero choice h = absurd (not-suc-le-zero h)
  entry-ends (suc n) choice h =
      rw (length-append (join_below n (own_entry rows)) (own_entry rows n))
      (elim (ℕ_discrete choice n) [
        | yes e ↦ rw e (omega arith)
        | no m ↦ omega (arith, entry-ends n choice (omega arith))
      ])

  -- each entry stands whole among the numbers
  pub entry-window : (choices choice : ℕ) (rest : List ℕ) → choice < choices
      → window (length (own_numbers rows choice)) (length (own_entry rows choice)) (own_numbers rows choices ++ rest) ≡ own_entry rows choice
  unfolding own_numbers join_below window
  entry-window zero choice rest h = absurd (not-suc-le-zero h)
  entry-window (suc n) choice rest h =
      let before = join_below n (own_entry rows) in
      let entry = own_entry rows n in
      rw (append_assoc before entry rest)
      (elim (ℕ_discrete choice n) [
        | yes e ↦ rw (e, drop_at before (entry ++ rest) (length before) refl) (take_at entry rest (length entry) refl)
        | no m ↦ entry-window n choice (entry ++ rest) (omega arith)
      ])

-- ---- in its pools

module _ (rows : List ℕ) (choices : ℕ) (in_range : choices ≤ 64) (few : length (own_numbers rows choices) ≤ 10240) where
  abbrev own : Map
  own = in_pools (own_starts rows choices) (own_lengths rows choices) (own_numbers rows choices)

  module _ (choice : ℕ) (h : choice < choices) where
    start_is : start_of own choice ≡ length (own_numbers rows choice)
    unfolding start_of own_starts
    start_is =
        let starts = list_below choices (λ c. length (own_numbers rows c)) in
        let long : length (pad 64 starts) ≡ 64 = length-pad 64 starts (unfold own_starts in starts_fit rows choices 64 in_range) in
        get_d_any (pad 64 starts) choice no_entry 0 (omega (arith, long, in_range, h))
        ∙ pad-at 64 starts choice
        ∙ get_d_list choices (λ c. length (own_numbers rows c)) choice 0 h

    length-is : length_of own choice ≡ length (own_entry rows choice)
    unfolding length_of own_lengths
    length-is =
        let lengths = list_below choices (λ c. length (own_entry rows c)) in
        pad-at 64 lengths choice ∙ get_d_list choices (λ c. length (own_entry rows c)) choice 0 h

    has_one : has_entry own choice ≡ true
    unfolding has_entry
    has_one = rw (start_is, ne_eqb (length (own_numbers rows choice)) no_entry (λ e. absurd (omega (arith, e, few, entry-ends rows choices choice h))))

    fits-own : entry_fits (length (own_numbers rows choices)) own choice ≡ true
    unfolding entry_fits
    fits-own = rw (has_one, start_is, length-is, le-leb _ _ (entry-ends rows choices choice h))

    looked-own : (whole : List ℕ) → looked_up own whole choice ≡ own_entry rows choice
    unfolding looked_up pad
    looked-own whole =
        rw (has_one, start_is, length-is)
        (entry-window rows choices choice (replicate (10240 - length (own_numbers rows choices)) 0) h)

  pools-own : own_pools rows choices ≡ own
  pools-own = sym (pools-few rows choices few)

  -- what is looked up in the own map are the choice's rows
  pub own-looked : (whole : List ℕ) (choice : ℕ) → choice < choices → looked_up (own_pools rows choices) whole choice ≡ own_entry rows choice
  own-looked whole choice h = ap (λ (map : Map). looked_up map whole choice) pools-own ∙ looked-own choice h whole

  named-own : (i : ℕ) → i < length (own_numbers rows choices) → ltb (get_or (pad 10240 (own_numbers rows choices)) i 0) (length rows) ≡ true
  named-own i h =
      let numbers = own_numbers rows choices in
      ap (λ (number : ℕ). ltb number (length rows)) (pad-at 10240 numbers i)
      ∙ lt-ltb (get_or numbers i 0) (length rows) (number-names rows choices (get_or numbers i 0) (get_d_in numbers i 0 h))

  keeps-own : (whole : List ℕ) → is_whole whole ≡ true → map_keeps choices (length rows) (length (own_numbers rows choices)) own whole ≡ true
  unfolding map_keeps
  keeps-own whole w =
      and_both _ _
      (and_both _ _ (each_all choices _ (λ choice h. fits-own choice h)) (each_all (length (own_numbers rows choices)) _ named-own))
      w

  -- the own map is never refused as a map
  pub own-keeps : (whole : List ℕ) → is_whole whole ≡ true → map_keeps choices (length rows) (length (own_numbers rows choices)) (own_pools rows choices) whole ≡ true
  own-keeps whole w =
      ap (λ (map : Map). map_keeps choices (length rows) (length (own_numbers rows choices)) map whole) pools-own ∙ keeps-own whole w

-- ---- of the call that made it

-- what the call leaves where it isn't refused
pub record Made (counts : Counts) (rows : List ℕ) (count : ℕ) (map : Map) : Type 0 where
  pub choices_in : counts.choices ≤ 64
  pub rows_in : length rows ≤ 1024
  pub counted : count ≡ length (own_numbers rows counts.choices)
  pub few : count ≤ 10240
  pub pools_are : map ≡ own_pools rows counts.choices

judged-done : {A B : Type 0} (verdict : Verdict) (buffers : B) (next : Outcome A B) {value : A} {left : B} → outcome (done value) left ≡ judged verdict buffers next
    → (verdict ≡ good) × (outcome (done value) left ≡ next)
judged-done (done value) buffers next e = (refl, e)
judged-done (refused number carried) buffers next e = absurd (refused-not-done (sym (ap (λ o. o.answer) e)))

pub own-made : (counts : Counts) (rows starts lengths numbers : List ℕ) {count : ℕ} {map : Map}
    → outcome (done count) map ≡ own_map_of counts rows (map_of starts lengths numbers) → Made counts rows count map
unfolding own_map_of own_counted
own-made counts rows starts lengths numbers e =
    let all = length (own_numbers rows counts.choices) in
    let pools = map_of starts lengths numbers in
    let next = outcome (unless (leb all 10240) 6 (done all)) (own_pools rows counts.choices) in
    let j = judged-done (own_judged counts rows pools) pools next e in
    let g : PoolsFull counts.choices rows starts lengths numbers = own-given counts rows starts lengths numbers j.0 in
    let u = unless-done (leb all 10240) 6 (done all) (sym (ap (λ o. o.answer) j.1)) in
    let same = sym (done-is u.1) in
    record {
      choices_in = g.choices_in;
      rows_in = g.rows_in;
      counted = same;
      few = omega (arith, same, leb-true all 10240 u.0);
      pools_are = ap (λ o. o.buffers) j.1;
    }

module _ {counts : Counts} {rows : List ℕ} {count : ℕ} {map : Map} (m : Made counts rows count map) where
  few-numbers : length (own_numbers rows counts.choices) ≤ 10240
  few-numbers = omega (arith, m.counted, m.few)

  pub made-keeps : (whole : List ℕ) → is_whole whole ≡ true → map_keeps counts.choices (length rows) count map whole ≡ true
  made-keeps whole w =
      rw (m.counted, m.pools_are) (own-keeps rows counts.choices m.choices_in few-numbers whole w)

  pub made-looked : (whole : List ℕ) (choice : ℕ) → choice < counts.choices → looked_up map whole choice ≡ own_entry rows choice
  made-looked whole choice h = rw m.pools_are (own-looked rows counts.choices m.choices_in few-numbers whole choice h)
