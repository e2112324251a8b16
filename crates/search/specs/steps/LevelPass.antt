-- What a pass at its limit is lent, whatever it is given: of a day that a call has judged it is what the
-- call's definition lends.
use Rattle.std.specs.Prelude.{◌≡◌, Bool, true, ◌&&◌, cond, List, [], map, ℕ, min, ◌≤◌, leb, length, get_or}
use Rattle.base_lists.specs.Flat.{list_below}
use Rattle.day_rows.specs.Levels.{levels_in_range, levels_rise}
use Rattle.plan_check.specs.Day.{Day, day_lent}
use Rattle.plan_check.specs.Feasible.{shapes_fit}
use Rattle.sets_analysis.specs.LevelList.{level_list}
use Rattle.sets_analysis.specs.Calls.{Pools, pools, pools_full, sets_in}
use Rattle.search_map.specs.Map.{Map, map_lent, looked_up}
use Rattle.search_order.specs.Order.{orders_keep, pass_order}
use Rattle.search_rules.specs.Pass.{Lent, lent_of}
use Rattle.search.specs.steps.Ground.{Ground, ground_of}
use Rattle.search.specs.declared.basis.Basis as lent

-- what every pass of a call is lent, or has its order and its sets from: the sets are the first of two pools,
-- so many of them
pub record Basis : Type 0 where
  pub full : Bool
  pub day : Day
  pub map : Map
  pub whole : List ℕ
  pub orders : List ℕ
  pub levels : List ℕ
  pub count : ℕ
  pub pools : Pools
  pub draws : List ℕ

-- a basis from its parts
abbrev pub basis_of : Bool → Day → Map → List ℕ → List ℕ → List ℕ → ℕ → Pools → List ℕ → Basis
basis_of full day map whole orders levels count pools draws =
    record {
      full = full;
      day = day;
      map = map;
      whole = whole;
      orders = orders;
      levels = levels;
      count = count;
      pools = pools;
      draws = draws;
    }

-- the basis that a call is lent
abbrev pub basis_lent : lent.Basis → Basis
basis_lent basis =
    basis_of basis.full (day_lent basis.day) (map_lent basis.map) basis.whole.now basis.orders.now basis.levels.now
    basis.count (pools basis.masks.now basis.set_levels.now) basis.draws.now

-- the ground of a basis, with the sets themselves
abbrev pub ground_on : Basis → Ground
ground_on basis =
    ground_of basis.full basis.day basis.map basis.whole basis.orders basis.levels
    (sets_in basis.count basis.pools.masks basis.pools.levels) basis.draws

-- what making a limit's list of sets takes: it refuses the rest
unfoldable pub list_taken : List ℕ → ℕ → Pools → Bool
list_taken levels count lent =
    leb count 1024 && levels_in_range (length levels) && (pools_full lent && levels_rise levels)

-- the choices of each set of the limit's list; of a list that is refused none
unfoldable pub sets_listed : List ℕ → ℕ → Pools → ℕ → List ℕ
sets_listed levels count lent limit =
    cond (list_taken levels count lent)
    (map (λ set. set.members) (level_list levels (sets_in count lent.masks lent.levels) limit))
    []

-- each choice's 'number of looked-up rows', as two bytes hold it
unfoldable pub rows_found : Map → List ℕ → List ℕ
rows_found map whole = list_below 64 λ choice. min (length (looked_up map whole choice)) 65535

-- what a pass at its limit is lent: its order, of 64 choices at most, and its sets
unfoldable pub lent_by : Basis → ℕ → ℕ → Lent
lent_by basis limit pass =
    lent_of basis.full basis.day basis.map basis.whole
    (pass_order (min basis.day.counts.choices 64) basis.orders
    (λ choice. get_or (rows_found basis.map basis.whole) choice 0) pass)
    (sets_listed basis.levels basis.count basis.pools limit) basis.draws

-- ---- what is judged before the first pass

-- a day's shape, the lists that rows are looked up in, orders, levels, and the pools of the sets
pub record PassReady (basis : Basis) (before : List ℕ) : Type 0 where
  pub shapes : shapes_fit basis.day before ≡ true
  pub few-numbers : length basis.map.numbers ≤ 10240
  pub short-whole : length basis.whole ≤ 1024
  pub orders-keep : orders_keep basis.day.counts.choices basis.orders ≡ true
  pub few-levels : levels_in_range (length basis.levels) ≡ true
  pub levels-rise : levels_rise basis.levels ≡ true
  pub few-sets : basis.count ≤ 1024
  pub masks-full : length basis.pools.masks ≡ 1024
  pub levels-full : length basis.pools.levels ≡ 1024
