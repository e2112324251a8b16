-- A pass of a day that is judged: what it is lent is what the call's passes are lent, and it is taken.
use mathlib.Core.Path.{◌≡◌, ◌∙◌}
use mathlib.Core.Bool.{Bool, true, false, ◌&&◌, cond}
use mathlib.Core.List.{List}
use Prim.Native.Nat.{ℕ, ◌≤◌, min}
use native.Mathlib.Omega.{arith}
use borrow.Author.Tests.{le-leb, eq-eqb, leb-true}
use lib.Dec.{leb}
use lib.ListN.{length, get_or, take, drop, length-take, length-drop}
use Rattle.base_lists.specs.Pool.{window}
use Rattle.base_lists.proofs.Below.{and_left, and_right}
use Rattle.base_lists.proofs.Flat.{list_ext}
use Rattle.day_rows.specs.Levels.{levels_in_range}
use Rattle.plan_check.specs.Feasible.{lengths_fit, shapes_fit}
use Rattle.sets_analysis.specs.Calls.{pools_full}
use Rattle.search_map.specs.Map.{Map, has_entry, start_of, length_of, looked_up}
use Rattle.search_order.proofs.OrderLaws.{pass_permutation}
use Rattle.search_pass.specs.steps.Call.{Leaves, left_by, pass_fits, pass_leaves}
use Rattle.search.specs.steps.LevelPass.{Basis, ground_on, PassReady, list_taken, sets_listed, rows_found, lent_by}
use Rattle.search.specs.steps.Ground.{Ground, rows_in, lent_in, pass_in}

-- ---- each choice's number of looked-up rows

-- no more are looked up than the longer of both lists has
looked-few : (entries : Map) (whole : List ℕ) (choice most : ℕ) → length entries.numbers ≤ most → length whole ≤ most → length (looked_up entries whole choice) ≤ most
unfolding looked_up window
looked-few entries whole choice most n w = go (has_entry entries choice)
  where
    go : (b : Bool) → length (cond b (take (length_of entries choice) (drop (start_of entries choice) entries.numbers)) whole) ≤ most
    go true = rw (length-take, length-drop) (omega arith)
    go false = w

-- two bytes hold each number of looked-up rows
rows-found : (entries : Map) (whole : List ℕ) → length entries.numbers ≤ 10240 → length whole ≤ 1024 → rows_found entries whole ≡ rows_in entries whole
unfolding rows_found rows_in
rows-found entries whole n w =
    list_ext 64 (λ choice. min (length (looked_up entries whole choice)) 65535) (λ choice. length (looked_up entries whole choice))
    (λ choice h. let few : length (looked_up entries whole choice) ≤ 10240 = looked-few entries whole choice 10240 n (omega arith) in omega arith)

-- ---- a day that is judged

module _ (basis : Basis) (before : List ℕ) (ready : PassReady basis before) where
  few-choices : basis.day.counts.choices ≤ 64
  unfolding shapes_fit
  few-choices =
      let c = leb basis.day.counts.choices 64 in
      let s = leb basis.day.counts.slots 24 in
      let l = lengths_fit basis.day.counts.choices basis.day.mins basis.day.maxs basis.day.optional before in
      leb-true _ _ (and_left c s (and_left (c && s) l ready.shapes))

  pub most-levels : length basis.levels ≤ 64
  unfolding levels_in_range
  most-levels = leb-true _ _ (and_right (leb 1 (length basis.levels)) (leb (length basis.levels) 64) ready.few-levels)

  -- a judged day's list of a limit is taken
  list-taken : list_taken basis.levels basis.count basis.pools ≡ true
  unfolding list_taken pools_full
  list-taken = rw (le-leb _ _ ready.few-sets, ready.few-levels, eq-eqb _ _ ready.masks-full, eq-eqb _ _ ready.levels-full, ready.levels-rise)

  module _ (limit pass : ℕ) where
    abbrev ground : Ground
    ground = ground_on basis

    lent_is : lent_by basis limit pass ≡ lent_in ground limit pass
    unfolding lent_by lent_in sets_listed
    lent_is =
        let least : min basis.day.counts.choices 64 ≡ basis.day.counts.choices = omega (arith, few-choices) in
        rw (least, rows-found basis.map basis.whole ready.few-numbers ready.short-whole, list-taken)

    -- a day's shape, and an order that is a permutation: the pass is taken
    pass_fits_lem : {now : List ℕ} → now ≡ before → pass_fits (lent_in ground limit pass) now ≡ true
    unfolding pass_fits lent_in
    pass_fits_lem e = rw (e, ready.shapes, pass_permutation basis.day.counts.choices basis.orders (λ choice. get_or (rows_in basis.map basis.whole) choice 0) pass ready.orders-keep)

    pub pass-taken : (turns draw : ℕ) {now : List ℕ} {left : Leaves} → now ≡ before
        → left ≡ pass_leaves (lent_by basis limit pass) turns draw now
        → left ≡ left_by (lent_in ground limit pass) now (pass_in ground limit pass turns draw)
    unfolding pass_leaves pass_in
    pass-taken turns draw {now} e l = l ∙ rw (lent_is, pass_fits_lem e)
