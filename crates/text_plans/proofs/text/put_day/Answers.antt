-- A clash, the listing by the rows that it takes, or 6.
use mathlib.Core.Path.{sym}
use lib.Seq.{length-take-le}
use Rattle.text_lines.specs.PlansLines.{clash, refused}
use Rattle.text_lines.proofs.PlansLineLaws.{clash-is, refused-is}
use Rattle.text_day.proofs.ReduceLaws.{Reduces, clash-told, ready-told, count-within, rows_case, refused_case, searches_fit}
use Rattle.text_plans.proofs.DayLaws.{reduce-refused, reduce-clash, reduce_puts, day-is, day-judged}
use Rattle.text_plans.proofs.CallLaws.{puts_as}
use Rattle.text_plans.proofs.text.put_day.Goals as goal
use Rattle.text_plans.proofs.text.put_day.Goals.{In-Ok}

-- the rows are reduced
reduced : (c : In-Ok) → Reduces _ _ _ _ _ c.requires.given c.in-Ok.reduction.count c.in-Ok.reduction.clash c.reduce.new.pool
reduced c = rows_case _ _ _ _ _ c.requires.given c.for_rows.ensures c.reduce.ensures c.in-Ok.is

pub returns-then-reduction : goal.returns-then-reduction
returns-then-reduction c =
    let told = clash-told _ _ _ _ _ c.requires.given (reduced (goal.at.returns-then-reduction c).In-Ok) c.if-reduction.true in
    puts_as clash clash-is (reduce-clash _ _ _ _ _ _ _ _ told) c.put_clash.ensures

pub slice_bounds-pool-end : goal.slice_bounds-pool-end
slice_bounds-pool-end c = count-within _ _ _ _ _ c.requires.given (reduced (goal.at.slice_bounds-pool-end c).In-Ok)

pub slice_bounds-search_count-end : goal.slice_bounds-search_count-end
slice_bounds-search_count-end c =
    sym (length-take-le _ _ (count-within _ _ _ _ _ c.requires.given (reduced (goal.at.slice_bounds-search_count-end c).In-Ok)))

pub slice_bounds-pool-end-in-Ok : goal.slice_bounds-pool-end-in-Ok
slice_bounds-pool-end-in-Ok c =
    searches_fit _ _ _ _ _ c.requires.given (reduced (goal.at.slice_bounds-pool-end-in-Ok c).In-Ok) c.search_count-searched.ensures

pub slice_bounds-listed-end : goal.slice_bounds-listed-end
slice_bounds-listed-end c =
    sym (length-take-le _ _ (searches_fit _ _ _ _ _ c.requires.given (reduced (goal.at.slice_bounds-listed-end c).In-Ok) c.search_count-searched.ensures))

pub put_plans_of-requires : goal.put_plans_of-requires
put_plans_of-requires c =
    record {
      judged = day-judged _ _ _ _ _ c.requires.given (reduced (goal.at.put_plans_of-requires c).In-Ok) c.search_count-searched.ensures c.args.asked.now.room;
      room = c.requires.room;
      full = c.requires.full;
    }

pub returns-else-reduction : goal.returns-else-reduction
returns-else-reduction c =
    let r = reduced (goal.at.returns-else-reduction c).In-Ok in
    let ready = ready-told _ _ _ _ _ c.requires.given r c.if-reduction.false in
    reduce_puts _ _ _ _ _ _ _ _ ready (day-is _ _ _ _ _ c.requires.given r c.search_count-searched.ensures) c.put_plans_of.ensures

pub returns-in-Err : goal.returns-in-Err
returns-in-Err c =
    let told = refused_case _ _ _ _ _ c.requires.given c.for_rows.ensures c.reduce.ensures c.in-Err.is in
    puts_as (refused _) (refused-is _) (reduce-refused _ _ _ _ _ _ _ _ told) c.put_refusal.ensures
