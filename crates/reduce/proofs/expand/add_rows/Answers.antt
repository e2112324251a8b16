-- Each stage writes into the free end after the rows already written; where the pool ends before them, the
-- count is past it.
use native.Mathlib.Omega.{arith}
use mathlib.Core.List.{◌++◌}
use Rattle.base_lists.specs.steps.Cut.{cut_at}
use Rattle.reduce_added.specs.Pairs.{group_pairs, mandatory_pairs}
use Rattle.reduce_added.specs.Copies.{copies_all}
use Rattle.reduce.proofs.Filling.{stage, filled_early, filled-whole, added-two, added-three, pairs_plain, choosers_plain, copies_plain, fits-two, fits-three, fits-four}
use Rattle.reduce.proofs.expand.add_rows.Goals as goal

pub overflow_add-total : goal.overflow_add-total
overflow_add-total c =
    record { fits = fits-two c.requires c.copy-total.ensures.0 c.group_pairs-total.ensures.0 }

pub returns-then-total-pool : goal.returns-then-total-pool
returns-then-total-pool c =
    let s = c in
    let g = cut_at 0 s.args.groups.now.ends.now s.args.groups.now.members.now in
    let l = s.requires in
    let w = stage s.args.pool.now _ _ s.args.rows.now (group_pairs g) (pairs_plain l) (omega (arith, c.copy-total.ensures.0)) c.copy-total.ensures c.group_pairs-total.ensures in
    filled_early _ (s.args.rows.now ++ group_pairs g) (mandatory_pairs s.args.rows.now s.args.choosers ++ copies_all g s.args.rows.now) _ _ l.pool-is (added-two g s.args.choosers s.args.rows.now) w (omega (arith, c.if-total-pool.true, c.pool-2-1.given.1, c.pool-1.given))

pub overflow_add-total-2 : goal.overflow_add-total-2
overflow_add-total-2 c =
    record { fits = fits-three c.requires c.copy-total.ensures.0 c.group_pairs-total.ensures.0 c.mandatory_pairs-total.ensures.0 }

pub returns-then-total-pool-2 : goal.returns-then-total-pool-2
returns-then-total-pool-2 c =
    let s = c in
    let g = cut_at 0 s.args.groups.now.ends.now s.args.groups.now.members.now in
    let l = s.requires in
    let w = stage s.args.pool.now _ _ s.args.rows.now (group_pairs g) (pairs_plain l) (omega (arith, c.copy-total.ensures.0)) c.copy-total.ensures c.group_pairs-total.ensures in
    let v = stage s.args.pool.now _ _ (s.args.rows.now ++ group_pairs g) (mandatory_pairs s.args.rows.now s.args.choosers) (choosers_plain l) (omega (arith, c.if-total-pool.false, c.pool-2-1.given.1, c.pool-1.given)) w c.mandatory_pairs-total.ensures in
    filled_early _ (s.args.rows.now ++ group_pairs g ++ mandatory_pairs s.args.rows.now s.args.choosers) (copies_all g s.args.rows.now) _ _ l.pool-is (added-three g s.args.choosers s.args.rows.now) v (omega (arith, c.if-total-pool-2.true, c.pool-3-1.given.1, c.pool-2-1.given.1, c.pool-1.given))

pub overflow_add-result : goal.overflow_add-result
overflow_add-result c =
    record { fits = fits-four c.requires c.copy-total.ensures.0 c.group_pairs-total.ensures.0 c.mandatory_pairs-total.ensures.0 c.copies.ensures.0 }

pub returns : goal.returns
returns c =
    let s = c in
    let g = cut_at 0 s.args.groups.now.ends.now s.args.groups.now.members.now in
    let l = s.requires in
    let w = stage s.args.pool.now _ _ s.args.rows.now (group_pairs g) (pairs_plain l) (omega (arith, c.copy-total.ensures.0)) c.copy-total.ensures c.group_pairs-total.ensures in
    let v = stage s.args.pool.now _ _ (s.args.rows.now ++ group_pairs g) (mandatory_pairs s.args.rows.now s.args.choosers) (choosers_plain l) (omega (arith, c.if-total-pool.false, c.pool-2-1.given.1, c.pool-1.given)) w c.mandatory_pairs-total.ensures in
    let u = stage s.args.pool.now _ _ (s.args.rows.now ++ group_pairs g ++ mandatory_pairs s.args.rows.now s.args.choosers) (copies_all g s.args.rows.now) (copies_plain l) (omega (arith, c.if-total-pool-2.false, c.pool-3-1.given.1, c.pool-2-1.given.1, c.pool-1.given)) v c.copies.ensures in
    filled-whole _ _ _ _ (added-three g s.args.choosers s.args.rows.now) u
