-- The first refusals look at no more of a map than its pools' lengths.
use mathlib.Core.Path.{sym}
use native.Mathlib.Omega.{arith}
use lib.ListN.{replicate}
use lib.Seq.{length-take-le}
use Rattle.search_map.specs.Map.{map_of}
use Rattle.search_day.proofs.WholeSteps.{whole_is}
use Rattle.search_day.proofs.PlanSteps.{zeros_full, judged-first}
use Rattle.search_day.proofs.plan.judge_first.Goals as goal

pub slice_bounds-given_by-end : goal.slice_bounds-given_by-end
slice_bounds-given_by-end c =
    sym (length-take-le c.whole_length-size.result c.count_up.new.whole (omega (arith, c.whole_length-size.ensures, c.count_up.ensures.0)))

pub returns : goal.returns
returns c =
    let given = c.args.given.now in
    judged-first given.counts given.mins.now given.maxs.now given.optional.now given.levels.now given.preferences.now given.rows.now given.orders.now given.draws.now c.args.plan.now
    (map_of (replicate 64 0) (replicate 64 0) (replicate 10240 0)) zeros_full c.given_by.ensures (whole_is given.rows.now c.count_up.new.whole c.whole_length-size.ensures c.count_up.ensures.1) c.judge_day.ensures
