-- The expansion: the stages one after another, the groups as they lie in their pools, and what the pool holds
-- at the end.
use mathlib.Core.Path.{◌≡◌, refl, sym, ◌∙◌, ap, subst}
use mathlib.Core.Bool.{true}
use mathlib.Core.List.{List, [], ◌++◌, flatten, append-nil, append_assoc}
use Prim.Native.Nat.{ℕ, ◌+◌, ◌-◌, ◌^◌, ◌≤◌, ◌<◌, min}
use native.Mathlib.Nat.{add-zero}
use native.Mathlib.Omega.{arith}
use borrow.Rule.Slice.PartMut.{put_mid, mid_of, Post-is}
use lib.Dec.{ltb}
use lib.ListN.{length, take, drop, replicate, length-append, length-map, length-drop, length-replicate}
use lib.Seq.{sets, length-sets, take_all, take_at, drop-length}
use Rattle.base_lists.specs.steps.Cut.{cut_at, EndsFit}
use Rattle.base_lists.specs.Group.{classes, ends_from}
use Rattle.base_lists.specs.Pool.{pad}
use Rattle.base_lists.proofs.Stores.{sets-append, sets-part, take-sets}
use Rattle.base_lists.proofs.Cut.{cut-ends, ends-fit}
use Rattle.base_lists.proofs.CountBelow.{count_le}
use Rattle.base_lists.proofs.Group.{flat_le, heads_le, length-ends}
use Rattle.day_rows.specs.Told.{done, outcome}
use Rattle.reduce_union_find.specs.State.{join_all, root_of}
use Rattle.reduce_union_find.specs.Groups.{groups_written, GroupsOutcome}
use Rattle.reduce_turn.specs.steps.Free.{Wrote}
use Rattle.reduce_turn.specs.Turn.{turned_rows}
use Rattle.reduce_added.specs.Groups.{same_choosers, joins}
use Rattle.reduce_added.specs.Pairs.{group_pairs, mandatory_pairs}
use Rattle.reduce_added.specs.Copies.{copies_all}
use Rattle.reduce.specs.steps.Expand.{PoolFilled, Small}
use Rattle.reduce.specs.Reduction.{added_to, expanded}
use Rattle.day_rows.specs.declared.check.Counts.{Counts}
use Rattle.reduce_turn.proofs.Turning.{turned-rows-most}
use Rattle.reduce_added.specs.steps.Fit.{groups_fit, copies_for}
use Rattle.reduce_added.proofs.GroupBounds.{copies_most}
use Rattle.reduce_added.proofs.Fitting.{fits, copies_are}
use Rattle.reduce_added.specs.steps.Limits.{pairs_in_groups, pairs_of_choosers}
use Rattle.reduce_added.proofs.PairBounds.{group_pairs-most, mandatory-pairs-most}
use Rattle.reduce_added.proofs.Limits.{groups_are, choosers_are}

-- a stage into the free end after the rows already written
pub stage : (pool pool' : List ℕ) (total : ℕ) (rows part : List ℕ) {told free : List ℕ} {r : ℕ} → told ≡ part → total ≤ length pool → Wrote pool 0 rows total pool'
    → Wrote (mid_of total (length pool' - total) pool') 0 told r free → Wrote pool 0 (rows ++ part) (total + r) (put_mid total (length pool' - total) pool' free)
stage pool pool' total rows part {told} {free} {r} e h w v =
    let l : length pool' ≡ length pool = ap length w.1 ∙ length-sets pool 0 rows in
    let m : mid_of total (length pool' - total) pool' ≡ drop total pool' = take_all (length pool' - total) (drop total pool') (rw (length-drop total pool') (omega arith)) in
    let t : total ≡ length rows = omega (arith, w.0) in
    let n : r ≡ 0 + length part = v.0 ∙ ap (λ (z : List ℕ). 0 + length z) e in (
      rw (length-append rows part) (omega (arith, w.0, n)),
      ap (λ (z : List ℕ). take total pool' ++ (free ++ z)) (Post-is total (length pool') pool' (omega arith) ∙ drop-length pool')
          ∙ ap (λ (z : List ℕ). take total pool' ++ z) (append-nil free ∙ v.1 ∙ ap (λ (z : List ℕ). sets z 0 told) m ∙ ap (sets (drop total pool') 0) e)
          ∙ sets-part pool' total 0 part (omega arith)
          ∙ ap (λ (n : ℕ). sets pool' n part) (add-zero total ∙ t)
          ∙ ap (λ (z : List ℕ). sets z (length rows) part) w.1
          ∙ sym (sets-append pool 0 rows part ∙ ap (λ (n : ℕ). sets (sets pool 0 rows) n part) (omega arith)),
    )

-- the pool was too short already, or all rows were written
pub filled_early : (pool rows rest : List ℕ) {all : List ℕ} (count : ℕ) (exit : List ℕ) → length pool ≡ 1024 → all ≡ rows ++ rest → Wrote pool 0 rows count exit → length pool < count
    → PoolFilled pool all count exit
filled_early pool rows rest count exit l e w h =
    record { whole = λ g. absurd (omega arith); past = λ g. rw (e, length-append rows rest) (omega (arith, w.0)) }

pub filled-whole : (pool rows : List ℕ) {all : List ℕ} (count : ℕ) (exit : List ℕ) → all ≡ rows → Wrote pool 0 rows count exit → PoolFilled pool all count exit
filled-whole pool rows count exit e w =
    record { whole = λ g. rw e ((omega (arith, w.0)), w.1); past = λ g. rw e (omega (arith, w.0)) }

-- the groups as they lie in their pools
module _ (choices : ℕ) (rows : List ℕ) (small : choices ≤ 64) where
  pub groups-count : length (same_choosers choices rows) ≤ 64
  unfolding same_choosers classes
  groups-count = rw length-map (omega (arith, heads_le choices (root_of (join_all choices (joins rows)))))

  pub groups_flat : length (flatten (same_choosers choices rows)) ≤ 64
  unfolding same_choosers classes
  groups_flat =
      omega (arith, flat_le choices choices (root_of (join_all choices (joins rows))), count_le choices (λ i. ltb (root_of (join_all choices (joins rows)) i) choices))

  module _ (count : ℕ) (members ends : List ℕ) (first : outcome (done count) (members, ends) ≡ groups_written (same_choosers (min 64 choices) rows)) where
    told : outcome (done count) (members, ends) ≡ groups_written (same_choosers choices rows)
    told =
        let e : min 64 choices ≡ choices = omega arith in
        first ∙ ap (λ (n : ℕ). groups_written (same_choosers n rows)) e

    told-count : count ≡ length (same_choosers choices rows)
    unfolding groups_written
    told-count =
        let e : done count ≡ done (length (same_choosers choices rows)) = ap (λ (g : GroupsOutcome). g.answer) told in
        cc

    told-members : members ≡ flatten (same_choosers choices rows) ++ replicate (64 - length (flatten (same_choosers choices rows))) 0
    unfolding groups_written pad
    told-members = ap (λ (g : GroupsOutcome). g.buffers.0) told

    told-ends : ends ≡ ends_from 0 (same_choosers choices rows) ++ replicate (64 - length (ends_from 0 (same_choosers choices rows))) 0
    unfolding groups_written pad
    told-ends = ap (λ (g : GroupsOutcome). g.buffers.1) told

    pub ends_are : take count ends ≡ ends_from 0 (same_choosers choices rows)
    ends_are =
        ap (take count) told-ends
        ∙ take_at (ends_from 0 (same_choosers choices rows)) (replicate (64 - length (ends_from 0 (same_choosers choices rows))) 0) count
        (length-ends 0 (same_choosers choices rows) ∙ sym told-count)

    pub groups-read : cut_at 0 (take count ends) members ≡ same_choosers choices rows
    groups-read =
        ap (λ (l : List ℕ). cut_at 0 l members) ends_are ∙ ap (cut_at 0 (ends_from 0 (same_choosers choices rows))) told-members
        ∙ cut-ends [] (same_choosers choices rows) (replicate (64 - length (flatten (same_choosers choices rows))) 0) 0 refl

    pub members-length : length members ≡ 64
    members-length = ap length told-members ∙ simp (length-append, length-replicate) (omega (arith, groups_flat))

    pub ends-length : length ends ≡ 64
    ends-length = ap length told-ends ∙ simp (length-append, length-replicate, length-ends) (omega (arith, groups-count))

    pub count_most : count ≤ 64
    count_most = omega (arith, told-count, groups-count)

    pub count-is : count ≡ length (take count ends)
    count-is = told-count ∙ sym (ap length ends_are ∙ length-ends 0 (same_choosers choices rows))

    pub ends-within : EndsFit 0 (take count ends) (length members)
    ends-within = rw (ends_are, members-length) (ends-fit (same_choosers choices rows) 0 64 (omega (arith, groups_flat)))

-- the turned rows read back
module _ (rows numbers : List ℕ) (count : ℕ) (r : length rows ≤ 128) (first : Wrote (replicate 128 0) 0 (turned_rows (take 128 rows)) count numbers) where
  w : Wrote (replicate 128 0) 0 (turned_rows rows) count numbers
  w =
      subst (λ (given : List ℕ). Wrote (replicate 128 0) 0 (turned_rows given) count numbers) (take_all 128 rows r) first

  room : length {A = ℕ} (replicate 128 0) ≡ 128
  room = length-replicate {A = ℕ} 128 0

  turned-count : count ≡ length (turned_rows rows)
  turned-count = omega (arith, w.0)

  pub turned-is : take count numbers ≡ turned_rows rows
  turned-is = rw (turned-count, w.1) (take-sets (replicate 128 0) (turned_rows rows) (omega (arith, room, turned-rows-most rows)))

  pub turned-within : count ≤ length numbers
  turned-within =
      let l : length numbers ≡ 128 = ap length w.1 ∙ length-sets (replicate 128 0) 0 (turned_rows rows) ∙ room in
      omega (arith, turned-count, turned-rows-most rows)

  pub turned-length : count ≡ length (take count numbers)
  turned-length = turned-count ∙ ap length (sym turned-is)

-- the groups as they were read back are the rows' groups
pub filled-added : (choices choosers : ℕ) (rows members ends pool exit : List ℕ) (count : ℕ) → cut_at 0 ends members ≡ same_choosers choices rows
    → PoolFilled pool (added_to (cut_at 0 ends members) choosers rows) count exit → PoolFilled pool (added_to (same_choosers choices rows) choosers rows) count exit
filled-added choices choosers rows members ends pool exit count g f =
    subst (λ (groups : List (List ℕ)). PoolFilled pool (added_to groups choosers rows) count exit) g f

-- the turned rows as they were read back are the turned rows
pub filled-expanded : (counts : Counts) (rows turned pool exit : List ℕ) (count : ℕ) → turned ≡ turned_rows rows
    → PoolFilled pool (added_to (same_choosers counts.choices turned) counts.choosers turned) count exit → PoolFilled pool (expanded counts rows) count exit
unfolding expanded
filled-expanded counts rows turned pool exit count t f =
    subst (λ (z : List ℕ). PoolFilled pool (added_to (same_choosers counts.choices z) counts.choosers z) count exit) t f

-- the groups and the turned rows are as many as the stages ask
pub small_of : (choices choosers pool : ℕ) (rows : List ℕ) (h : choices ≤ 64) (count : ℕ) (members ends : List ℕ)
    → outcome (done count) (members, ends) ≡ groups_written (same_choosers (min 64 choices) rows) → choosers ≤ 200 → length rows ≤ 128 → pool ≡ 1024
    → Small choosers rows members (take count ends) pool
small_of choices choosers pool rows h count members ends told c r p =
    let m : length members ≡ 64 = members-length choices rows h count members ends told in
    record {
      choosers_in = c;
      rows_in = r;
      members_in = omega arith;
      groups_in = omega (arith, count-is choices rows h count members ends told, count_most choices rows h count members ends told);
      ends-fit = ends-within choices rows h count members ends told;
      pool-is = p;
    }

-- within the limits each stage writes what its rule says, and a count that fits
module _ {choosers : ℕ} {rows members ends : List ℕ} {pool : ℕ} (s : Small choosers rows members ends pool) where
  groups-fit : groups_fit members ends ≡ true
  groups-fit = fits members ends (record { members_in = s.members_in; groups_in = s.groups_in; ends-fit = s.ends-fit })

  pub pairs_plain : pairs_in_groups members ends ≡ group_pairs (cut_at 0 ends members)
  pairs_plain = groups_are members ends groups-fit

  pub choosers_plain : pairs_of_choosers rows choosers ≡ mandatory_pairs rows choosers
  choosers_plain = choosers_are rows choosers s.rows_in s.choosers_in

  pub copies_plain : copies_for members ends rows ≡ copies_all (cut_at 0 ends members) rows
  copies_plain = copies_are members ends rows s.rows_in groups-fit

  module _ {total : ℕ} (t : total ≡ 0 + length rows) {pairs : ℕ} (p : pairs ≡ 0 + length (pairs_in_groups members ends)) where
    few-two : total + pairs < 2 ^ 20
    few-two =
        let n : pairs ≡ 0 + length (group_pairs (cut_at 0 ends members)) = p ∙ ap (λ (z : List ℕ). 0 + length z) pairs_plain in
        omega (arith, group_pairs-most members ends s.members_in s.groups_in, s.rows_in)

    pub fits-two : total + pairs < 2 ^ 64
    fits-two = omega (arith, few-two)

    module _ {chosen : ℕ} (q : chosen ≡ 0 + length (pairs_of_choosers rows choosers)) where
      few-three : total + pairs + chosen < 2 ^ 24
      few-three =
          let n : chosen ≡ 0 + length (mandatory_pairs rows choosers) = q ∙ ap (λ (z : List ℕ). 0 + length z) choosers_plain in
          omega (arith, few-two, mandatory-pairs-most rows s.rows_in choosers, s.choosers_in)

      pub fits-three : total + pairs + chosen < 2 ^ 64
      fits-three = omega (arith, few-three)

      pub fits-four : {copied : ℕ} → copied ≡ 0 + length (copies_for members ends rows) → total + pairs + chosen + copied < 2 ^ 64
      fits-four {copied} c =
          let n : copied ≡ 0 + length (copies_all (cut_at 0 ends members) rows) = c ∙ ap (λ (z : List ℕ). 0 + length z) copies_plain in
          omega (arith, few-three, copies_most members ends rows s.members_in s.groups_in s.rows_in)

-- all rows, in the order of the stages
module _ (groups : List (List ℕ)) (choosers : ℕ) (rows : List ℕ) where
  pub added-two : added_to groups choosers rows ≡ rows ++ group_pairs groups ++ (mandatory_pairs rows choosers ++ copies_all groups rows)
  unfolding added_to
  added-two = sym (append_assoc rows (group_pairs groups) (mandatory_pairs rows choosers ++ copies_all groups rows))

  pub added-three : added_to groups choosers rows ≡ rows ++ group_pairs groups ++ mandatory_pairs rows choosers ++ copies_all groups rows
  added-three = added-two ∙ sym (append_assoc (rows ++ group_pairs groups) (mandatory_pairs rows choosers) (copies_all groups rows))
