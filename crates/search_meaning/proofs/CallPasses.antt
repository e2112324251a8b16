-- The passes of a call that isn't refused: each is over a day of 01's shape in an order of its choices; at
-- the last level every set is all choices.
use mathlib.Core.Path.{◌≡◌, refl, sym, ◌∙◌, ap}
use mathlib.Core.Bool.{true}
use mathlib.Core.List.Memᴰ
use mathlib.Core.List.{List, Memᴰ}
use Prim.Native.Nat.{ℕ, suc, ◌≤◌}
use borrow.Author.Tests.{ltb-true}
use lib.ListN.{get_or}
use Rattle.day_rows.specs.Kinds.{kinds, columns_of}
use Rattle.day_rows.specs.Row.{row_of}
use Rattle.day_rows.specs.Told.{good}
use Rattle.day_rows.specs.Check.{column_holds, rows_judged}
use Rattle.day_rows.specs.declared.check.Takes.TheVariants.{Scheduling}
use Rattle.day_rows.proofs.KeptLaws.{kept, good-each}
use Rattle.day_rows.specs.Levels.{last_level}
use Rattle.base_choice_sets.specs.Sets.{has}
use Rattle.base_choice_sets.proofs.SetLaws.{has-set}
use Rattle.sets_analysis.specs.Kept.{CriticalSet}
use Rattle.sets_analysis.specs.LevelList.{level_list}
use Rattle.sets_analysis.specs.declared.analysis.Analysis.{Analysis}
use Rattle.sets_analysis.specs.declared.analysis.Analysis.TheVariants as mode
use Rattle.sets_analysis.proofs.LevelLists.{listed_above}
use Rattle.sets_analysis.proofs.LastLevel.{Whole, whole_numbers, last-whole, last-simplified-whole}
use Rattle.search_order.proofs.OrderLaws.{pass_permutation}
use Rattle.search_map.proofs.OwnMap.{own-made, made-looked}
use Rattle.search_rules.specs.Walk.{Out, hit, dry, cut}
use Rattle.search_rules.specs.Turns.{turns_enough}
use Rattle.search_rules.specs.Pass.{pass_of, plan_of}
use Rattle.search_rules.proofs.RowsAlong.{GoodPlan, LimitsName}
use Rattle.search_rules.proofs.SetsAlong.{SetsWhole}
use Rattle.search_rules.proofs.InBucket.{OwnPass}
use Rattle.search_rules.proofs.Arranging.{permutation_arranged}
use Rattle.search_rules.proofs.PassSettles.{found-good, none-good, not-cut, found-leaves, none-leaves}
use Rattle.search_rules.proofs.CallSettles.{Enough}
use Rattle.search_meaning.specs.Given.{Given, row_counts, plan_day, sets_day}
use Rattle.search_meaning.proofs.JudgedLaws.{DayKeeps, LentKeeps}
use Rattle.search_meaning.specs.Search.{sets_of, sets_at, rows_counted, order_of, lent_at, pass_at}
use Rattle.search_meaning.specs.declared.settings.Settings.{Settings}
use Rattle.search_meaning.specs.Demand.{OwnMap}

-- a row of kind 6 names a slot of the day, as the table asks
pub limits_name : (given : Given) → rows_judged (row_counts given.counts) Scheduling given.rows ≡ good → LimitsName (plan_day given)
unfolding columns_of kinds
limits_name given g i h six =
    let counts = row_counts given.counts in
    let row = row_of (get_or given.rows i 0) in
    let k = kept counts Scheduling (get_or given.rows i 0) (good-each counts Scheduling given.rows g i h) in
    ltb-true row.left counts.slots (ap (λ (kind : ℕ). column_holds counts (columns_of kind).1 row.left) (sym six) ∙ k.left)

module _ (given : Given) (settings : Settings) (before : List ℕ) (day : DayKeeps given before) where
  -- every set of the last level's list is all choices, whatever the analysis
  listed-whole : (analysis : Analysis) (set : CriticalSet) → Memᴰ set (level_list given.levels (sets_of (sets_day given) analysis) (last_level given.levels)) → Whole (sets_day given) set
  listed-whole mode.Off set m = absurd (Memᴰ.not-nil (listed_above given.levels (sets_of (sets_day given) mode.Off) (last_level given.levels) set m).0)
  listed-whole mode.On set m = last-whole (sets_day given) day.at-most-last set m
  listed-whole mode.Simplified set m = last-simplified-whole (sets_day given) day.at-most-last set m

  pub last-sets : SetsWhole (plan_day given) (sets_at given settings (last_level given.levels))
  unfolding sets_at
  last-sets set m =
      let w = whole_numbers (sets_day given) (level_list given.levels (sets_of (sets_day given) settings.analysis) (last_level given.levels)) (listed-whole settings.analysis) set m in
      (w.1, λ choice h. ap (λ (s : ℕ). has s choice) w.0 ∙ has-set given.counts.choices (λ c. true) choice h)

  -- a pass with the own map
  pub own-pass : LentKeeps given → OwnMap given → (limit pass : ℕ) → OwnPass (lent_at given settings limit pass)
  unfolding lent_at order_of
  own-pass lent own limit pass =
      let counts = row_counts given.counts in
      let made = own-made counts given.rows own.pools.starts own.pools.lengths own.pools.numbers own.written in
      record {
        choices_in = day.in_range.day.choices;
        slots_in = day.in_range.day.slots;
        arranged = permutation_arranged given.counts.choices (order_of given pass)
            (pass_permutation given.counts.choices given.orders (λ choice. get_or (rows_counted given) choice 0) pass lent.orders);
        own-rows = made-looked made given.whole;
        named = limits_name given day.rows-keep;
      }

  -- a plan found is good
  pub pass-sound : (limit pass turns draw left : ℕ) (places : List ℕ) (draw' : ℕ) → pass_at given settings limit pass turns draw ≡ hit left places draw'
      → GoodPlan (plan_day given) (plan_of (lent_at given settings limit pass) places)
  unfolding pass_at lent_at
  pass-sound limit pass turns draw left places draw' e =
      found-good (lent_at given settings limit pass) turns draw day.in_range.day.choices left places draw' e

  -- a full pass at the last level that ends without a plan: there is no good one
  pub pass_complete : LentKeeps given → OwnMap given → settings.full ≡ true → (pass turns draw left draw' : ℕ)
      → pass_at given settings (last_level given.levels) pass turns draw ≡ dry left draw' → (list : List ℕ) → GoodPlan (plan_day given) list → ⊥
  unfolding pass_at lent_at
  pass_complete lent own full pass turns draw left draw' e =
      none-good (lent_at given settings (last_level given.levels) pass) turns draw (own-pass lent own (last_level given.levels) pass) full last-sets left draw' e

-- a pass with enough turns isn't cut and leaves all but those
pub pass-enough : (given : Given) (settings : Settings) (limit pass turns draw : ℕ) → turns_enough (suc given.counts.slots) given.counts.choices ≤ turns
    → Enough (turns_enough (suc given.counts.slots) given.counts.choices) turns (pass_at given settings limit pass turns draw)
unfolding pass_at lent_at
pass-enough given settings limit pass turns draw h = go (pass_of (lent_at given settings limit pass) turns draw) refl
  where
    go : (out : Out) → pass_of (lent_at given settings limit pass) turns draw ≡ out → Enough (turns_enough (suc given.counts.slots) given.counts.choices) turns out
    go (hit left places draw') e = found-leaves (lent_at given settings limit pass) turns draw left places draw' e
    go (dry left draw') e = none-leaves (lent_at given settings limit pass) turns draw left draw' e
    go (cut draw') e = not-cut (lent_at given settings limit pass) turns draw h draw' e
