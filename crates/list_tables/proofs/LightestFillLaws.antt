-- The least weights of so many choices as they are filled: each row by the row after it with 1 as the
-- choice's maximum, the rest is as it was.
use mathlib.Core.Path.{◌≡◌, refl, sym, ◌∙◌, ap}
use mathlib.Core.List.{List}
use Prim.Native.Nat.{ℕ, suc, ◌+◌, ◌-◌, ◌*◌, ◌≤◌, ◌<◌, min}
use native.Mathlib.Decide.{ℕ_discrete}
use native.Mathlib.Numerals.{add-one}
use native.Mathlib.Omega.{arith}
use lib.ListN.{length, get_or}
use Rattle.list_tables.specs.steps.Weights.{last_entry, least}
use Rattle.list_tables.specs.steps.Tables.{weight_at, written, next_entry}
use Rattle.list_tables.proofs.TableLaws.{written-length, written_in, written_out, weight_same}
use Rattle.list_tables.specs.steps.Lightest.{lightest_of}
use Rattle.list_tables.specs.steps.Filling.{Filling, FirstFilled}
use Rattle.list_tables.proofs.LightestLaws.{lightest-by}

-- least weights, row by row
module _ (weight : ℕ → ℕ → ℕ) (choices table : ℕ) where
  pub lightest-last : (count : ℕ) → lightest_of weight choices table choices count ≡ last_entry count
  unfolding lightest_of least
  lightest-last count = let e : choices - choices ≡ 0 = omega arith in rw e

  pub lightest-row : (from count : ℕ) → from < choices
      → lightest_of weight choices table from count
      ≡ min (lightest_of weight choices table (from + 1) count) (weight table from + lightest_of weight choices table (from + 1) (count - 1))
  unfolding lightest_of least
  lightest-row from count h = let e : choices - from ≡ suc (choices - (from + 1)) = omega arith in rw (e, add-one)

-- one table, row by row, by the weights before
module _ (choices : ℕ) (before : List ℕ) (table : ℕ) (c : choices ≤ 64) (t : table < 4) where
  -- while a table is filled the weights are as before
  pub filling_weights : (from : ℕ) (tables : List ℕ) → Filling choices before table from tables → (other choice : ℕ)
      → weight_at tables other choice ≡ weight_at before other choice
  filling_weights from tables k other choice =
      weight_same tables before other choice λ o i. k.outside (52260 + other * 64 + choice) (λ row count r s z. omega arith)

  -- the row after the last choice
  pub filling_last : length before ≡ 69416
      → Filling choices before table choices (written (choices + 1) (52516 + (table * 65 + choices) * 65) last_entry before)
  filling_last s =
      let at = 52516 + (table * 65 + choices) * 65 in
      let n = choices + 1 in
      record {
        size = written-length at last_entry before n ∙ s;
        outside = λ place o. written_out at last_entry before n place (λ l hl z. o choices l (omega arith) (omega arith) z);
        rows_after = λ row count a f g.
            let e : row ≡ choices = omega arith in
            rw e (written_in at last_entry before n count (rw s (omega arith)) (omega arith) ∙ sym (lightest-last (weight_at before) choices table count));
      }

  -- a choice's row
  pub filling_row : (from : ℕ) (tables : List ℕ) (weight : ℕ) → from < choices → weight ≡ weight_at tables table from
      → Filling choices before table (from + 1) tables
      → Filling choices before table from
      (written (choices + 1) (52516 + (table * 65 + from) * 65) (next_entry 65 tables (52516 + (table * 65 + from) * 65) weight 1) tables)
  unfolding next_entry
  filling_row from tables weight i w k =
      let at : ℕ = 52516 + (table * 65 + from) * 65 in
      let n : ℕ = choices + 1 in
      let f : ℕ → ℕ = next_entry 65 tables at weight 1 in
      record {
        size = written-length at f tables n ∙ k.size;
        outside = λ place o. written_out at f tables n place (λ l hl z. o from l (omega arith) (omega arith) z) ∙ k.outside place o;
        rows_after = λ row count a b g. go row count a b g (ℕ_discrete row from);
      }
    where
      entry : (count : ℕ) → count ≤ choices
          → next_entry 65 tables (52516 + (table * 65 + from) * 65) weight 1 count ≡ lightest_of (weight_at before) choices table from count
      entry count g =
          let i1 : 52516 + (table * 65 + from) * 65 + 65 + count ≡ 52516 + (table * 65 + (from + 1)) * 65 + count = omega arith in
          let i2 : 52516 + (table * 65 + from) * 65 + 65 + (count - 1) ≡ 52516 + (table * 65 + (from + 1)) * 65 + (count - 1) = omega arith in
          let a : get_or tables (52516 + (table * 65 + from) * 65 + 65 + count) 0 ≡ lightest_of (weight_at before) choices table (from + 1) count =
          ap (λ (x : ℕ). get_or tables x 0) i1 ∙ k.rows_after (from + 1) count (omega arith) (omega arith) g in
          let b : get_or tables (52516 + (table * 65 + from) * 65 + 65 + (count - 1)) 0 ≡ lightest_of (weight_at before) choices table (from + 1) (count - 1) =
          ap (λ (x : ℕ). get_or tables x 0) i2 ∙ k.rows_after (from + 1) (count - 1) (omega arith) (omega arith) (omega arith) in
          let v : weight ≡ weight_at before table from = w ∙ filling_weights (from + 1) tables k table from in
          ap (λ (x : ℕ). min x (weight + get_or tables (52516 + (table * 65 + from) * 65 + 65 + (count - 1)) 0)) a
          ∙ ap (λ (x : ℕ). min (lightest_of (weight_at before) choices table (from + 1) count) (weight + x)) b
          ∙ ap (λ (x : ℕ). min (lightest_of (weight_at before) choices table (from + 1) count) (x + lightest_of (weight_at before) choices table (from + 1) (count - 1))) v
          ∙ sym (lightest-row (weight_at before) choices table from count i)

      go : (row count : ℕ) → from ≤ row → row ≤ choices → count ≤ choices → Dec (row ≡ from)
          → get_or (written (choices + 1) (52516 + (table * 65 + from) * 65) (next_entry 65 tables (52516 + (table * 65 + from) * 65) weight 1) tables) (52516 + (table * 65 + row) * 65 + count) 0
          ≡ lightest_of (weight_at before) choices table row count
      go row count a b g (yes e) =
          rw e
          (written_in (52516 + (table * 65 + from) * 65) (next_entry 65 tables (52516 + (table * 65 + from) * 65) weight 1) tables (choices + 1) count (rw k.size (omega arith)) (omega arith)
          ∙ entry count g)
      go row count a b g (no q) =
          written_out (52516 + (table * 65 + from) * 65) (next_entry 65 tables (52516 + (table * 65 + from) * 65) weight 1) tables (choices + 1) (52516 + (table * 65 + row) * 65 + count)
          (λ l hl z. q (omega arith))
          ∙ k.rows_after row count (omega (arith, q)) b g

  -- rows filled by the weights before are so by the weights now, which are the same
  pub filling_here : (from : ℕ) (tables : List ℕ) → Filling choices before table from tables → Filling choices tables table from tables
  filling_here from tables k =
      record {
        size = k.size;
        outside = λ place o. refl;
        rows_after = λ row count a f g.
            k.rows_after row count a f g
            ∙ lightest-by (weight_at before) (weight_at tables) choices table row count (λ choice. sym (filling_weights from tables k table choice));
      }

  -- what is filled since some rows were filled is filled since before them
  pub filling_since : (from first : ℕ) (tables after : List ℕ) → Filling choices before table from tables → Filling choices tables table first after
      → Filling choices before table first after
  filling_since from first tables after k g =
      record {
        size = g.size;
        outside = λ place o. g.outside place o ∙ k.outside place o;
        rows_after = λ row count a f l.
            g.rows_after row count a f l
            ∙ lightest-by (weight_at tables) (weight_at before) choices table row count (λ choice. filling_weights from tables k table choice);
      }

-- one table filled row by row, of what the code left
pub filled-last : (choices : ℕ) (before after : List ℕ) (table : ℕ) → choices ≤ 64 → table < 4 → length before ≡ 69416
    → after ≡ written (choices + 1) (52516 + (table * 65 + choices) * 65) last_entry before → Filling choices after table choices after
filled-last choices before after table c t s e =
    rw e
    (filling_here choices before table c t choices (written (choices + 1) (52516 + (table * 65 + choices) * 65) last_entry before)
    (filling_last choices before table c t s))

pub filled-rows : (choices : ℕ) (before tables after : List ℕ) (table from : ℕ) → choices ≤ 64 → table < 4 → length before ≡ 69416
    → tables ≡ written (choices + 1) (52516 + (table * 65 + choices) * 65) last_entry before → from ≡ 0
    → Filling choices tables table from after → Filling choices before table 0 after
filled-rows choices before tables after table from c t s e z k =
    filling_since choices before table c t choices 0 tables after (rw e (filling_last choices before table c t s)) (rw z at k)

pub filled_row : (choices : ℕ) (before : List ℕ) (table past from : ℕ) (tables after : List ℕ) (weight : ℕ) → choices ≤ 64 → table < 4
    → past ≡ from + 1 → past ≤ choices → weight ≡ weight_at tables table from → Filling choices before table past tables
    → after ≡ written (choices + 1) (52516 + (table * 65 + from) * 65) (next_entry 65 tables (52516 + (table * 65 + from) * 65) weight 1) tables
    → Filling choices before table from after
filled_row choices before table past from tables after weight c t p i w k e =
    rw e (filling_row choices before table c t from tables weight (omega arith) w (rw p at k))

-- the tables one after the other
module _ (choices : ℕ) where
  -- while the tables are filled the weights are as before
  pub first-weights : (before tables : List ℕ) (filled : ℕ) → FirstFilled choices before filled tables → (other choice : ℕ)
      → weight_at tables other choice ≡ weight_at before other choice
  first-weights before tables filled k other choice =
      weight_same tables before other choice λ o i. k.outside (52260 + other * 64 + choice) (λ table row count t r s z. omega arith)

  -- one table more is filled
  pub first_more : (before tables after : List ℕ) (filled : ℕ) → choices ≤ 64 → filled < 4 → FirstFilled choices before filled tables
      → Filling choices tables filled 0 after → FirstFilled choices before (filled + 1) after
  first_more before tables after filled c t k g =
      record {
        size = g.size;
        outside = λ place o.
            g.outside place (λ row count r s z. o filled row count (omega arith) r s z)
            ∙ k.outside place (λ table row count u r s z. o table row count (omega arith) r s z);
        entries = λ table row count u r s. go table row count u r s (ℕ_discrete table filled);
      }
    where
      go : (table row count : ℕ) → table < filled + 1 → row ≤ choices → count ≤ choices → Dec (table ≡ filled)
          → get_or after (52516 + (table * 65 + row) * 65 + count) 0 ≡ lightest_of (weight_at before) choices table row count
      go table row count u r s (yes e) =
          rw e
          (g.rows_after row count (omega arith) r s
          ∙ lightest-by (weight_at tables) (weight_at before) choices filled row count (λ choice. first-weights before tables filled k filled choice))
      go table row count u r s (no q) =
          g.outside (52516 + (table * 65 + row) * 65 + count) (λ other entry a b z. omega (arith, q))
          ∙ k.entries table row count (omega (arith, q)) r s
