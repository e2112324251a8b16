-- 14 can't be: the own map, with the whole list of its rows, is never refused as a map.
use mathlib.Core.Path.{◌≡◌, sym, ◌∙◌, ap}
use mathlib.Core.Bool.{true}
use mathlib.Core.List.{List, []}
use Prim.Native.Nat.{ℕ, ◌≤◌, min}
use native.Mathlib.Omega.{arith}
use borrow.Author.Tests.{eq-eqb}
use lib.ListN.{length, get_or}
use lib.Dec.{eqb}
use Rattle.base_lists.specs.Flat.{list_below}
use Rattle.base_lists.proofs.Below.{each_all}
use Rattle.base_lists.proofs.Flat.{length-list, get_d_list}
use Rattle.day_rows.specs.Told.{good}
use Rattle.search_map.specs.Map.{is_whole, map_keeps, own_numbers}
use Rattle.search_map.specs.Calls.{own_pools}
use Rattle.search_map.proofs.OwnMap.{own-keeps}
use Rattle.search_meaning.specs.Judged.{day_judged}
use Rattle.search_meaning.proofs.JudgedLaws.{DayKeeps, day-keeps}
use Rattle.search_day.specs.Planning.{whole_of, given_with}
use Rattle.search_day.specs.declared.given.PlanCounts.{PlanCounts}

-- the whole list is 0, 1, 2 ..
counts_up : (n : ℕ) → is_whole (list_below n (λ k. k)) ≡ true
unfolding is_whole
counts_up n =
    each_all (length (list_below n (λ k. k))) (λ i. eqb (get_or (list_below n (λ k. k)) i 0) i)
    (λ i h. eq-eqb _ _ (get_d_list n (λ k. k) i 0 (omega (arith, h, length-list n (λ k. k)))))

pub whole-keeps : (rows : List ℕ) → is_whole (whole_of rows) ≡ true
unfolding whole_of
whole-keeps rows = counts_up (min (length rows) 1024)

-- what 14 asks holds of every day that gets as far as the search
pub never-map : (counts : PlanCounts) (mins maxs optional levels preferences rows before : List ℕ)
    → day_judged (given_with 0 counts mins maxs optional levels preferences rows [] []) before ≡ good → length (own_numbers rows counts.choices) ≤ 10240
    → map_keeps counts.choices counts.rows (length (own_numbers rows counts.choices)) (own_pools rows counts.choices) (whole_of rows) ≡ true
never-map counts mins maxs optional levels preferences rows before d few =
    let k : DayKeeps (given_with 0 counts mins maxs optional levels preferences rows [] []) before = day-keeps _ before d in
    ap (λ (n : ℕ). map_keeps counts.choices n (length (own_numbers rows counts.choices)) (own_pools rows counts.choices) (whole_of rows)) (sym k.rows)
    ∙ own-keeps rows counts.choices k.in_range.day.choices few (whole_of rows) (whole-keeps rows)
