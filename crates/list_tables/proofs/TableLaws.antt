-- The tables as they are filled and read: what is written stands, the rest is as it was,
-- and each row is least weights.
use mathlib.Core.Path.{◌≡◌, refl, sym, ◌∙◌, ap}
use mathlib.Core.Bool.{Bool, true, false, ◌&&◌, cond, false≢true}
use mathlib.Core.List.{List}
use Prim.Native.Nat.{ℕ, zero, suc, ◌+◌, ◌-◌, ◌*◌, ◌≤◌, ◌<◌, min}
use native.Mathlib.Decide.{ℕ_discrete}
use native.Mathlib.Numerals.{add-one}
use native.Mathlib.Nat.{not-suc-le-zero}
use native.Mathlib.Omega.{arith}
use borrow.Author.Tests.{lt-ltb, le-ltb, ltb-true, le-leb, lt-leb, eq-eqb, ne_eqb}
use lib.Dec.{ltb}
use lib.ListN.{length, get_or, set, length-set}
use lib.Seq.{get_or-set_same, get_or-set_other}
use Rattle.base_lists.proofs.Below.{and_left, and_right}
use Rattle.day_rows.specs.declared.check.Counts.{Counts}
use Rattle.list_tables.specs.steps.Weights.{last_entry, least, least_of}
use Rattle.list_tables.specs.steps.Tables.{tables_fit, entry_at, weight_at, TablesFilled, Fills, written, next_entry, with_ones, Filling, FirstFilled}
use Rattle.list_tables.proofs.WeightLaws.{least_by}

-- the row after the last choice
pub last_none : (lack : ℕ) → lack ≡ 0 → 0 ≡ last_entry lack
unfolding last_entry
last_none lack e = rw e

pub last_some : (lack : ℕ) → (lack ≡ 0 → ⊥) → 30000 ≡ last_entry lack
unfolding last_entry
last_some lack n = rw (ne_eqb _ _ n)

-- what is written one after the other
module _ (at : ℕ) (f : ℕ → ℕ) (tables : List ℕ) where
  pub written-length : (n : ℕ) → length (written n at f tables) ≡ length tables
  unfolding written
  written-length zero = refl
  written-length (suc n) = simp length-set (written-length n)

  pub written-more : (n : ℕ) → set (written n at f tables) (at + n) (f n) ≡ written (n + 1) at f tables
  unfolding written
  written-more n = rw add-one

  pub written_in : (n l : ℕ) → at + n ≤ length tables → l < n → get_or (written n at f tables) (at + l) 0 ≡ f l
  unfolding written
  written_in zero l h hl = absurd (not-suc-le-zero hl)
  written_in (suc n) l h hl = go (ℕ_discrete l n) (written_in n l (omega arith))
    where
      go : Dec (l ≡ n) → (l < n → get_or (written n at f tables) (at + l) 0 ≡ f l) → get_or (set (written n at f tables) (at + n) (f n)) (at + l) 0 ≡ f l
      go (yes e) ih = rw e (get_or-set_same (written n at f tables) (at + n) (f n) 0 (rw (written-length n) (omega arith)))
      go (no q) ih = get_or-set_other (written n at f tables) (at + n) (at + l) (f n) 0 (λ z. q (omega arith)) ∙ ih (omega arith)

  pub written_out : (n k : ℕ) → ((l : ℕ) → l < n → k ≡ at + l → ⊥) → get_or (written n at f tables) k 0 ≡ get_or tables k 0
  unfolding written
  written_out zero k h = refl
  written_out (suc n) k h =
      get_or-set_other (written n at f tables) (at + n) k (f n) 0 (h n (omega arith)) ∙ written_out n k λ l hl. h l (omega arith)

-- one entry of a row, by the row after it
module _ (width at weight most : ℕ) (before : List ℕ) where
  pub row_step : (lack without other with value : ℕ) (tables : List ℕ) → tables ≡ written lack at (next_entry width before at weight most) before
      → lack < width → without ≡ get_or tables (at + width + lack) 0 → other ≡ lack - most → with ≡ weight + get_or tables (at + width + other) 0 → value ≡ min without with
      → set tables (at + lack) value ≡ written (lack + 1) at (next_entry width before at weight most) before
  unfolding next_entry
  row_step lack without other with value tables t h a o b v =
      let f : ℕ → ℕ = next_entry width before at weight most in
      let p : without ≡ get_or before (at + width + lack) 0 =
      a ∙ ap (λ (x : List ℕ). get_or x (at + width + lack) 0) t ∙ written_out at f before lack (at + width + lack) (λ l hl z. omega arith) in
      let q : with ≡ weight + get_or before (at + width + (lack - most)) 0 =
      b ∙ ap (λ (x : List ℕ). weight + get_or x (at + width + other) 0) t
      ∙ ap (λ (x : ℕ). weight + x) (written_out at f before lack (at + width + other) (λ l hl z. omega arith))
      ∙ ap (λ (x : ℕ). weight + get_or before (at + width + x) 0) o in
      let e : value ≡ f lack = v ∙ ap (λ (x : ℕ). min x with) p ∙ ap (λ (x : ℕ). min (get_or before (at + width + lack) 0) x) q in
      ap (λ (x : List ℕ). set x (at + lack) value) t ∙ ap (λ (x : ℕ). set (written lack at f before) (at + lack) x) e ∙ written-more at f before lack

-- one entry of the last row
pub last_step : (at lack value : ℕ) (before tables : List ℕ) → tables ≡ written lack at last_entry before → value ≡ last_entry lack
    → set tables (at + lack) value ≡ written (lack + 1) at last_entry before
last_step at lack value before tables t v =
    ap (λ (x : List ℕ). set x (at + lack) value) t ∙ ap (λ (x : ℕ). set (written lack at last_entry before) (at + lack) x) v
    ∙ written-more at last_entry before lack

-- an entry as it is read
module _ (tables : List ℕ) (table from lack : ℕ) where
  pub entry-table : 4 ≤ table → 0 ≡ entry_at tables table from lack
  unfolding entry_at
  entry-table h = rw (le-ltb _ _ h)

  pub entry-from : table < 4 → 65 ≤ from → 0 ≡ entry_at tables table from lack
  unfolding entry_at
  entry-from t h = rw (lt-ltb _ _ t, le-ltb _ _ h)

  pub entry-lack : table < 4 → from < 65 → 201 ≤ lack → 0 ≡ entry_at tables table from lack
  unfolding entry_at
  entry-lack t f h = rw (lt-ltb _ _ t, lt-ltb _ _ f, le-ltb _ _ h)

  pub entry_in : table < 4 → from < 65 → lack < 201 → get_or tables ((table * 65 + from) * 201 + lack) 0 ≡ entry_at tables table from lack
  unfolding entry_at
  entry_in t f h = rw (lt-ltb _ _ t, lt-ltb _ _ f, lt-ltb _ _ h)

-- entries are the same where the places are
pub entry-same : (tables before : List ℕ) (table from lack : ℕ)
    → (table < 4 → from < 65 → lack < 201 → get_or tables ((table * 65 + from) * 201 + lack) 0 ≡ get_or before ((table * 65 + from) * 201 + lack) 0)
    → entry_at tables table from lack ≡ entry_at before table from lack
unfolding entry_at
entry-same tables before table from lack h = go (ltb table 4 && (ltb from 65 && ltb lack 201)) refl
  where
    go : (b : Bool) → (ltb table 4 && (ltb from 65 && ltb lack 201)) ≡ b
        → cond b (get_or tables ((table * 65 + from) * 201 + lack) 0) 0 ≡ cond b (get_or before ((table * 65 + from) * 201 + lack) 0) 0
    go true t =
        let inner : (ltb from 65 && ltb lack 201) ≡ true = and_right (ltb table 4) (ltb from 65 && ltb lack 201) t in
        h (ltb-true _ _ (and_left (ltb table 4) (ltb from 65 && ltb lack 201) t)) (ltb-true _ _ (and_left (ltb from 65) (ltb lack 201) inner))
        (ltb-true _ _ (and_right (ltb from 65) (ltb lack 201) inner))
    go false t = refl

-- a weight as it is read
module _ (tables : List ℕ) (table choice : ℕ) where
  pub weight_table : 4 ≤ table → 0 ≡ weight_at tables table choice
  unfolding weight_at
  weight_table h = rw (le-ltb _ _ h)

  pub weight_choice : table < 4 → 64 ≤ choice → 0 ≡ weight_at tables table choice
  unfolding weight_at
  weight_choice t h = rw (lt-ltb _ _ t, le-ltb _ _ h)

  pub weight_in : table < 4 → choice < 64 → get_or tables (52260 + table * 64 + choice) 0 ≡ weight_at tables table choice
  unfolding weight_at
  weight_in t h = rw (lt-ltb _ _ t, lt-ltb _ _ h)

-- weights are the same where the places are
pub weight_same : (tables before : List ℕ) (table choice : ℕ)
    → (table < 4 → choice < 64 → get_or tables (52260 + table * 64 + choice) 0 ≡ get_or before (52260 + table * 64 + choice) 0)
    → weight_at tables table choice ≡ weight_at before table choice
unfolding weight_at
weight_same tables before table choice h = go (ltb table 4 && ltb choice 64) refl
  where
    go : (b : Bool) → (ltb table 4 && ltb choice 64) ≡ b
        → cond b (get_or tables (52260 + table * 64 + choice) 0) 0 ≡ cond b (get_or before (52260 + table * 64 + choice) 0) 0
    go true t = h (ltb-true _ _ (and_left (ltb table 4) (ltb choice 64) t)) (ltb-true _ _ (and_right (ltb table 4) (ltb choice 64) t))
    go false t = refl

-- the other tables' weights are as they were
pub ones-out : (tables : List ℕ) (table choice : ℕ) → 1 ≤ table → weight_at (with_ones tables) table choice ≡ weight_at tables table choice
unfolding with_ones
ones-out tables table choice h =
    weight_same (written 64 52260 (λ choice. 1) tables) tables table choice λ t c.
    written_out 52260 (λ choice. 1) tables 64 (52260 + table * 64 + choice) (λ l hl z. omega arith)

-- with ones in table 0 no choice weighs more than 1 there
pub ones_in : (tables : List ℕ) (choice : ℕ) → length tables ≡ 69416 → weight_at (with_ones tables) 0 choice ≤ 1
unfolding with_ones weight_at
ones_in tables choice e = go (ltb choice 64) refl
  where
    go : (b : Bool) → ltb choice 64 ≡ b → cond (ltb 0 4 && b) (get_or (written 64 52260 (λ choice. 1) tables) (52260 + 0 * 64 + choice) 0) 0 ≤ 1
    go true t =
        let p : 52260 + 0 * 64 + choice ≡ 52260 + choice = omega arith in
        let w : get_or (written 64 52260 (λ choice. 1) tables) (52260 + choice) 0 ≡ 1 =
        written_in 52260 (λ choice. 1) tables 64 choice (omega (arith, e)) (ltb-true _ _ t) in
        rw (p, w) (omega arith)
    go false t = omega arith

-- ones for one choice more
pub ones_step : (choice : ℕ) (before tables : List ℕ) → tables ≡ written choice 52260 (λ x. 1) before
    → set tables (52260 + choice) 1 ≡ written (choice + 1) 52260 (λ x. 1) before
ones_step choice before tables e = ap (λ (x : List ℕ). set x (52260 + choice) 1) e ∙ written-more 52260 (λ x. 1) before choice

pub ones-done : (choice : ℕ) (before tables : List ℕ) → choice ≡ 64 → tables ≡ written choice 52260 (λ x. 1) before → tables ≡ with_ones before
unfolding with_ones
ones-done choice before tables h e = e ∙ ap (λ (n : ℕ). written n 52260 (λ x. 1) before) h

-- least weights, row by row
module _ (weight : ℕ → ℕ → ℕ) (counts : Counts) (maxs : List ℕ) (table : ℕ) where
  pub least-last : (lack : ℕ) → least_of weight counts maxs table counts.choices lack ≡ last_entry lack
  unfolding least_of least
  least-last lack = let e : counts.choices - counts.choices ≡ 0 = omega arith in rw e

  pub least-row : (from lack : ℕ) → from < counts.choices
      → least_of weight counts maxs table from lack
      ≡ min (least_of weight counts maxs table (from + 1) lack) (weight table from + least_of weight counts maxs table (from + 1) (lack - get_or maxs from 0))
  unfolding least_of least
  least-row from lack h = let e : counts.choices - from ≡ suc (counts.choices - (from + 1)) = omega arith in rw (e, add-one)

-- one table, row by row, by the weights before
module _ (counts : Counts) (maxs before : List ℕ) (table : ℕ) (c : counts.choices ≤ 64) (h : counts.choosers ≤ 200) (t : table < 4) where
  -- while a table is filled the weights are as before
  pub filling_weights : (from : ℕ) (tables : List ℕ) → Filling counts maxs before table from tables → (other choice : ℕ)
      → weight_at tables other choice ≡ weight_at before other choice
  filling_weights from tables k other choice =
      weight_same tables before other choice λ o i. k.outside (52260 + other * 64 + choice) (λ a b. omega arith)

  -- the row after the last choice
  pub filling_last : length before ≡ 69416
      → Filling counts maxs before table counts.choices (written (counts.choosers + 1) ((table * 65 + counts.choices) * 201) last_entry before)
  filling_last s =
      let at = (table * 65 + counts.choices) * 201 in
      let n = counts.choosers + 1 in
      record {
        size = written-length at last_entry before n ∙ s;
        outside = λ place o. written_out at last_entry before n place (λ l hl z. o (omega arith) (omega arith));
        rows_after = λ first lack a f g.
            let e : first ≡ counts.choices = omega arith in
            rw e (written_in at last_entry before n lack (rw s (omega arith)) (omega arith) ∙ sym (least-last (weight_at before) counts maxs table lack));
      }

  -- a choice's row
  pub filling_row : (from : ℕ) (tables : List ℕ) (weight most : ℕ) → from < counts.choices → weight ≡ weight_at tables table from → most ≡ get_or maxs from 0
      → Filling counts maxs before table (from + 1) tables
      → Filling counts maxs before table from (written (counts.choosers + 1) ((table * 65 + from) * 201) (next_entry 201 tables ((table * 65 + from) * 201) weight most) tables)
  unfolding next_entry
  filling_row from tables weight most i w m k =
      let at : ℕ = (table * 65 + from) * 201 in
      let n : ℕ = counts.choosers + 1 in
      let f : ℕ → ℕ = next_entry 201 tables at weight most in
      record {
        size = written-length at f tables n ∙ k.size;
        outside = λ place o. written_out at f tables n place (λ l hl z. o (omega arith) (omega arith)) ∙ k.outside place o;
        rows_after = λ first lack a b g. go first lack a b g (ℕ_discrete first from);
      }
    where
      row : (lack : ℕ) → lack ≤ counts.choosers → next_entry 201 tables ((table * 65 + from) * 201) weight most lack ≡ least_of (weight_at before) counts maxs table from lack
      row lack g =
          let i1 : (table * 65 + from) * 201 + 201 + lack ≡ (table * 65 + (from + 1)) * 201 + lack = omega arith in
          let i2 : (table * 65 + from) * 201 + 201 + (lack - most) ≡ (table * 65 + (from + 1)) * 201 + (lack - most) = omega arith in
          let a : get_or tables ((table * 65 + from) * 201 + 201 + lack) 0 ≡ least_of (weight_at before) counts maxs table (from + 1) lack =
          ap (λ (x : ℕ). get_or tables x 0) i1 ∙ k.rows_after (from + 1) lack (omega arith) (omega arith) g in
          let b : get_or tables ((table * 65 + from) * 201 + 201 + (lack - most)) 0 ≡ least_of (weight_at before) counts maxs table (from + 1) (lack - most) =
          ap (λ (x : ℕ). get_or tables x 0) i2 ∙ k.rows_after (from + 1) (lack - most) (omega arith) (omega arith) (omega arith) in
          let v : weight ≡ weight_at before table from = w ∙ filling_weights (from + 1) tables k table from in
          ap (λ (x : ℕ). min x (weight + get_or tables ((table * 65 + from) * 201 + 201 + (lack - most)) 0)) a
          ∙ ap (λ (x : ℕ). min (least_of (weight_at before) counts maxs table (from + 1) lack) (weight + x)) b
          ∙ ap (λ (x : ℕ). min (least_of (weight_at before) counts maxs table (from + 1) lack) (x + least_of (weight_at before) counts maxs table (from + 1) (lack - most))) v
          ∙ ap (λ (x : ℕ). min (least_of (weight_at before) counts maxs table (from + 1) lack) (weight_at before table from + least_of (weight_at before) counts maxs table (from + 1) (lack - x))) m
          ∙ sym (least-row (weight_at before) counts maxs table from lack i)

      go : (first lack : ℕ) → from ≤ first → first ≤ counts.choices → lack ≤ counts.choosers → Dec (first ≡ from)
          → get_or (written (counts.choosers + 1) ((table * 65 + from) * 201) (next_entry 201 tables ((table * 65 + from) * 201) weight most) tables) ((table * 65 + first) * 201 + lack) 0
          ≡ least_of (weight_at before) counts maxs table first lack
      go first lack a b g (yes e) =
          rw e
          (written_in ((table * 65 + from) * 201) (next_entry 201 tables ((table * 65 + from) * 201) weight most) tables (counts.choosers + 1) lack (rw k.size (omega arith)) (omega arith)
          ∙ row lack g)
      go first lack a b g (no q) =
          written_out ((table * 65 + from) * 201) (next_entry 201 tables ((table * 65 + from) * 201) weight most) tables (counts.choosers + 1) ((table * 65 + first) * 201 + lack)
          (λ l hl z. q (omega arith))
          ∙ k.rows_after first lack (omega (arith, q)) b g

  -- rows filled by the weights before are so by the weights now, which are the same
  pub filling_here : (from : ℕ) (tables : List ℕ) → Filling counts maxs before table from tables → Filling counts maxs tables table from tables
  filling_here from tables k =
      record {
        size = k.size;
        outside = λ place o. refl;
        rows_after = λ first lack a f g.
            k.rows_after first lack a f g
            ∙ least_by (weight_at before) (weight_at tables) counts maxs table first lack (λ choice. sym (filling_weights from tables k table choice));
      }

  -- what is filled since some rows were filled is filled since before them
  pub filling_since : (from first : ℕ) (tables after : List ℕ) → Filling counts maxs before table from tables → Filling counts maxs tables table first after
      → Filling counts maxs before table first after
  filling_since from first tables after k g =
      record {
        size = g.size;
        outside = λ place o. g.outside place o ∙ k.outside place o;
        rows_after = λ row lack a f l.
            g.rows_after row lack a f l
            ∙ least_by (weight_at tables) (weight_at before) counts maxs table row lack (λ choice. filling_weights from tables k table choice);
      }

-- one table filled row by row, of what the code left
pub filled-last : (counts : Counts) (maxs before after : List ℕ) (table : ℕ) → counts.choices ≤ 64 → counts.choosers ≤ 200 → table < 4 → length before ≡ 69416
    → after ≡ written (counts.choosers + 1) ((table * 65 + counts.choices) * 201) last_entry before
    → Filling counts maxs after table counts.choices after
filled-last counts maxs before after table c h t s e =
    rw e
    (filling_here counts maxs before table c h t counts.choices (written (counts.choosers + 1) ((table * 65 + counts.choices) * 201) last_entry before)
    (filling_last counts maxs before table c h t s))

pub filled-rows : (counts : Counts) (maxs before tables after : List ℕ) (table from : ℕ) → counts.choices ≤ 64 → counts.choosers ≤ 200 → table < 4 → length before ≡ 69416
    → tables ≡ written (counts.choosers + 1) ((table * 65 + counts.choices) * 201) last_entry before → from ≡ 0
    → Filling counts maxs tables table from after → Filling counts maxs before table 0 after
filled-rows counts maxs before tables after table from c h t s e z k =
    filling_since counts maxs before table c h t counts.choices 0 tables after (rw e (filling_last counts maxs before table c h t s)) (rw z at k)

pub filled_row : (counts : Counts) (maxs before : List ℕ) (table past from : ℕ) (tables after : List ℕ) (weight most : ℕ) → counts.choices ≤ 64 → counts.choosers ≤ 200 → table < 4
    → past ≡ from + 1 → past ≤ counts.choices → weight ≡ weight_at tables table from → most ≡ get_or maxs from 0
    → Filling counts maxs before table past tables
    → after ≡ written (counts.choosers + 1) ((table * 65 + from) * 201) (next_entry 201 tables ((table * 65 + from) * 201) weight most) tables
    → Filling counts maxs before table from after
filled_row counts maxs before table past from tables after weight most c h t p i w m k e =
    rw e (filling_row counts maxs before table c h t from tables weight most (omega arith) w m (rw p at k))

-- the tables one after the other
module _ (counts : Counts) (maxs : List ℕ) where
  -- one table more is filled
  pub first_more : (before tables after : List ℕ) (count : ℕ) → counts.choices ≤ 64 → counts.choosers ≤ 200 → count < 4
      → FirstFilled counts maxs before count tables → Filling counts maxs tables count 0 after → FirstFilled counts maxs before (count + 1) after
  first_more before tables after count c h t k g =
      record {
        size = g.size;
        entries = λ table from lack o f l. go table from lack o f l (ℕ_discrete table count);
        weights = λ table choice. filling_weights counts maxs tables count c h t 0 after g table choice ∙ k.weights table choice;
      }
    where
      go : (table from lack : ℕ) → table < count + 1 → from ≤ counts.choices → lack ≤ counts.choosers → Dec (table ≡ count)
          → get_or after ((table * 65 + from) * 201 + lack) 0 ≡ least_of (weight_at before) counts maxs table from lack
      go table from lack o f l (yes e) =
          rw e (g.rows_after from lack (omega arith) f l ∙ least_by (weight_at tables) (weight_at before) counts maxs count from lack (λ choice. k.weights count choice))
      go table from lack o f l (no q) =
          g.outside ((table * 65 + from) * 201 + lack) (λ a b. omega (arith, q)) ∙ k.entries table from lack (omega (arith, q)) f l

  -- all four tables are filled by weights that are at most 1 in table 0
  pub first-all : (before tables : List ℕ) → ((choice : ℕ) → weight_at before 0 choice ≤ 1) → FirstFilled counts maxs before 4 tables → TablesFilled counts maxs tables
  first-all before tables one k =
      record {
        size = k.size;
        entries = λ table from lack o f l.
            k.entries table from lack o f l
            ∙ least_by (weight_at before) (weight_at tables) counts maxs table from lack (λ choice. sym (k.weights table choice));
        ones = λ choice. rw (k.weights 0 choice) (one choice);
      }

  -- the call: a day that doesn't fit leaves the array, the others' tables are filled
  fills-not : (before : List ℕ) → tables_fit counts maxs ≡ false → Fills counts maxs before before
  fills-not before t =
      record {
        filled = λ z. absurd (false≢true (sym t ∙ z));
        weights = λ z table choice o. refl;
        untouched = λ z. refl;
      }

  not-many-choices : 64 < counts.choices → tables_fit counts maxs ≡ false
  unfolding tables_fit
  not-many-choices h = rw (lt-leb _ _ h)

  not-many-choosers : counts.choices ≤ 64 → 200 < counts.choosers → tables_fit counts maxs ≡ false
  unfolding tables_fit
  not-many-choosers c h = rw (le-leb _ _ c, lt-leb _ _ h)

  not-other-length : counts.choices ≤ 64 → counts.choosers ≤ 200 → (length maxs ≡ counts.choices → ⊥) → tables_fit counts maxs ≡ false
  unfolding tables_fit
  not-other-length c h n = rw (le-leb _ _ c, le-leb _ _ h, ne_eqb _ _ n)

  all_fit : counts.choices ≤ 64 → counts.choosers ≤ 200 → length maxs ≡ counts.choices → tables_fit counts maxs ≡ true
  unfolding tables_fit
  all_fit c h e = rw (le-leb _ _ c, le-leb _ _ h, eq-eqb _ _ e)

  pub fills-many-choices : (before : List ℕ) → 64 < counts.choices → Fills counts maxs before before
  fills-many-choices before h = fills-not before (not-many-choices h)

  pub fills-many-choosers : (before : List ℕ) → counts.choices ≤ 64 → 200 < counts.choosers → Fills counts maxs before before
  fills-many-choosers before c h = fills-not before (not-many-choosers c h)

  pub fills-other-length : (before : List ℕ) → counts.choices ≤ 64 → counts.choosers ≤ 200 → (length maxs ≡ counts.choices → ⊥) → Fills counts maxs before before
  fills-other-length before c h n = fills-not before (not-other-length c h n)

  pub fills-all : (before after : List ℕ) → counts.choices ≤ 64 → counts.choosers ≤ 200 → length maxs ≡ counts.choices → length before ≡ 69416
      → FirstFilled counts maxs (with_ones before) 4 after → Fills counts maxs before after
  fills-all before after c h e s k =
      record {
        filled = λ z. first-all (with_ones before) after (λ choice. ones_in before choice s) k;
        weights = λ z table choice o. k.weights table choice ∙ ones-out before table choice o;
        untouched = λ z. absurd (false≢true (sym z ∙ all_fit c h e));
      }

-- of filled tables every entry that a day uses reads as the least weight
pub entry-least : (counts : Counts) (maxs tables : List ℕ) → TablesFilled counts maxs tables → counts.choices ≤ 64 → counts.choosers ≤ 200
    → (table from lack : ℕ) → table < 4 → from ≤ counts.choices → lack ≤ counts.choosers
    → entry_at tables table from lack ≡ least_of (weight_at tables) counts maxs table from lack
entry-least counts maxs tables k c h table from lack t f g =
    sym (entry_in tables table from lack t (omega arith) (omega arith)) ∙ k.entries table from lack t f g
