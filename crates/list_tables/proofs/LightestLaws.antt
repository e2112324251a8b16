-- The least weights of so many choices: as they are read, what so many choices weigh,
-- and what filling them keeps.
use mathlib.Core.Path.{◌≡◌, refl, sym, ◌∙◌}
use mathlib.Core.Bool.{Bool, cond}
use mathlib.Core.List.{List}
use Prim.Native.Nat.{ℕ, zero, suc, ◌+◌, ◌-◌, ◌*◌, ◌≤◌, ◌<◌}
use native.Mathlib.Decide.{ℕ_discrete}
use native.Mathlib.Omega.{arith}
use borrow.Author.Tests.{lt-ltb, le-ltb}
use lib.ListN.{get_or}
use Rattle.day_rows.specs.declared.check.Counts.{Counts}
use Rattle.list_tables.specs.steps.Weights.{last_entry, least, sum_from}
use Rattle.list_tables.specs.steps.Tables.{weight_at, TablesFilled}
use Rattle.list_tables.proofs.WeightLaws.{least_weighs, least_ext, least_by}
use Rattle.list_tables.proofs.TableLaws.{weight_same}
use Rattle.list_tables.specs.steps.Lightest.{lightest_of, lightest_at, LightestFilled, FillsLightest}

-- an entry as it is read
module _ (tables : List ℕ) (table from count : ℕ) where
  pub lightest-none : count ≡ 0 → 0 ≡ lightest_at tables table from count
  unfolding lightest_at
  lightest-none e = rw (le-ltb 0 count (omega (arith, e)))

  module _ (some : count ≡ 0 → ⊥) where
    pub lightest-table : 4 ≤ table → 0 ≡ lightest_at tables table from count
    unfolding lightest_at
    lightest-table h = rw (lt-ltb 0 count (omega (arith, some)), le-ltb _ _ h)

    pub lightest-from : table < 4 → 65 ≤ from → 0 ≡ lightest_at tables table from count
    unfolding lightest_at
    lightest-from t h = rw (lt-ltb 0 count (omega (arith, some)), lt-ltb _ _ t, le-ltb _ _ h)

    pub lightest-count : table < 4 → from < 65 → 65 ≤ count → 0 ≡ lightest_at tables table from count
    unfolding lightest_at
    lightest-count t f h = rw (lt-ltb 0 count (omega (arith, some)), lt-ltb _ _ t, lt-ltb _ _ f, le-ltb _ _ h)

    pub lightest_in : table < 4 → from < 65 → count < 65
        → get_or tables (52516 + (table * 65 + from) * 65 + count) 0 ≡ lightest_at tables table from count
    unfolding lightest_at
    lightest_in t f h = rw (lt-ltb 0 count (omega (arith, some)), lt-ltb _ _ t, lt-ltb _ _ f, lt-ltb _ _ h)

-- no choices weigh nothing
least-none : (weight most : ℕ → ℕ) (from count : ℕ) → least weight most from count 0 ≡ 0
unfolding least last_entry
least-none weight most from zero = refl
least-none weight most from (suc count) =
    let h : least weight most (suc from) count 0 ≡ 0 = least-none weight most (suc from) count in
    rw h (omega arith)

none_weigh : (weight : ℕ → ℕ → ℕ) (choices table from count : ℕ) → count ≡ 0 → 0 ≡ lightest_of weight choices table from count
unfolding lightest_of
none_weigh weight choices table from count e = sym (rw e (least-none (weight table) (λ choice. 1) from (choices - from)))

-- whatever choices from one on are at least so many weigh at least the entry
pub lightest_weighs : (weight : ℕ → ℕ) (inside : ℕ → Bool) (from count n : ℕ) → n ≤ sum_from from count (λ choice. cond (inside choice) 1 0)
    → least weight (λ choice. 1) from count n ≤ sum_from from count λ choice. cond (inside choice) (weight choice) 0
lightest_weighs weight inside from count n h = least_weighs weight (λ choice. 1) inside from count n h

-- weights that agree have the same least weights
pub lightest-by : (weight other : ℕ → ℕ → ℕ) (choices table from count : ℕ) → ((choice : ℕ) → weight table choice ≡ other table choice)
    → lightest_of weight choices table from count ≡ lightest_of other choices table from count
unfolding lightest_of
lightest-by weight other choices table from count h =
    least_ext (weight table) (other table) (λ choice. 1) h from (choices - from) count

-- filling touches no weight
pub lightest-weights : (choices : ℕ) (before after : List ℕ) → FillsLightest choices before after → (table choice : ℕ)
    → weight_at after table choice ≡ weight_at before table choice
lightest-weights choices before after k table choice =
    weight_same after before table choice λ t c. k.others (52260 + table * 64 + choice) (λ other from count o f g z. omega arith)

-- what is filled is the least weights by the weights that stand there now
pub lightest-filled : (choices : ℕ) (before after : List ℕ) → FillsLightest choices before after → choices ≤ 64 → LightestFilled choices after
lightest-filled choices before after k c =
    record {
      entries = λ table from count t f g.
          read table from count t f g (ℕ_discrete count 0)
          ∙ lightest-by (weight_at before) (weight_at after) choices table from count (λ choice. sym (lightest-weights choices before after k table choice));
    }
  where
    read : (table from count : ℕ) → table < 4 → from ≤ choices → count ≤ choices → Dec (count ≡ 0)
        → lightest_at after table from count ≡ lightest_of (weight_at before) choices table from count
    read table from count t f g (yes e) = sym (lightest-none after table from count e) ∙ none_weigh (weight_at before) choices table from count e
    read table from count t f g (no n) =
        sym (lightest_in after table from count n t (omega (arith, f, c)) (omega (arith, g, c))) ∙ k.entries c table from count t f g

-- filled tables stay filled
pub filled-kept : (counts : Counts) (maxs before after : List ℕ) → counts.choices ≤ 64 → counts.choosers ≤ 200 → TablesFilled counts maxs before
    → FillsLightest counts.choices before after → TablesFilled counts maxs after
filled-kept counts maxs before after c h filled k =
    record {
      size = k.size ∙ filled.size;
      entries = λ table from lack t f g.
          k.others ((table * 65 + from) * 201 + lack) (λ other row count o r s z. omega arith)
          ∙ filled.entries table from lack t f g
          ∙ least_by (weight_at before) (weight_at after) counts maxs table from lack
          (λ choice. sym (lightest-weights counts.choices before after k table choice));
      ones = λ choice. rw (lightest-weights counts.choices before after k 0 choice) (filled.ones choice);
    }
