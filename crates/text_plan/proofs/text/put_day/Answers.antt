-- A clash, the search with the rows that it takes, or 6.
use mathlib.Core.Path.{sym, ◌∙◌, ap}
use lib.Seq.{length-take-le}
use Rattle.text_lines.specs.PlanLines.{answer_text}
use Rattle.text_lines.proofs.PutLaws.{put_as}
use Rattle.text_lines.proofs.PlanLineLaws.{clash-is, refused-is}
use Rattle.text_day.proofs.ReduceLaws.{Reduces, clash-told, ready-told, count-within, rows_case, refused_case, searches_front, searches_fit}
use Rattle.text_plan.proofs.AnswerLaws.{reduce-refused, reduce-clash, few-choices, reduce-ready}
use Rattle.text_plan.proofs.text.put_day.Goals as goal
use Rattle.text_plan.proofs.text.put_day.Goals.{In-Ok}

-- the rows are reduced
reduced : (c : In-Ok) → Reduces _ _ _ _ _ c.requires.given c.in-Ok.reduction.count c.in-Ok.reduction.clash c.reduce.new.pool
reduced c =
    rows_case _ _ _ _ _ c.requires.given c.for_rows.ensures c.reduce.ensures c.in-Ok.is

pub returns-then-reduction : goal.returns-then-reduction
returns-then-reduction c =
    let clash = clash-told _ _ _ _ _ c.requires.given (reduced (goal.at.returns-then-reduction c).In-Ok) c.if-reduction.true in
    put_as _ _ (clash-is ∙ ap answer_text (reduce-clash c.args.day.counts _ _ _ _ _ _ clash)) c.put_clash.ensures

pub slice_bounds-pool-end : goal.slice_bounds-pool-end
slice_bounds-pool-end c = count-within _ _ _ _ _ c.requires.given (reduced (goal.at.slice_bounds-pool-end c).In-Ok)

pub slice_bounds-search_count-end : goal.slice_bounds-search_count-end
slice_bounds-search_count-end c =
    sym (length-take-le _ _ (count-within _ _ _ _ _ c.requires.given (reduced (goal.at.slice_bounds-search_count-end c).In-Ok)))

pub slice_bounds-pool-end-in-Ok : goal.slice_bounds-pool-end-in-Ok
slice_bounds-pool-end-in-Ok c =
    searches_fit _ _ _ _ _ c.requires.given (reduced (goal.at.slice_bounds-pool-end-in-Ok c).In-Ok) c.search_count-searched.ensures

pub slice_bounds-put_search-end : goal.slice_bounds-put_search-end
slice_bounds-put_search-end c =
    sym (length-take-le _ _ (searches_fit _ _ _ _ _ c.requires.given (reduced (goal.at.slice_bounds-put_search-end c).In-Ok) c.search_count-searched.ensures))

pub put_search-requires-clause-few : goal.put_search-requires-clause-few
put_search-requires-clause-few c = few-choices c.args.day.counts c.requires.given

pub returns-else-reduction : goal.returns-else-reduction
returns-else-reduction c =
    let r = reduced (goal.at.returns-else-reduction c).In-Ok in
    let ready = ready-told _ _ _ _ _ c.requires.given r c.if-reduction.false in
    let front = searches_front _ _ _ _ _ c.requires.given r c.search_count-searched.ensures in
    put_as _ _ (ap answer_text (reduce-ready c.args.day.counts _ _ _ _ _ _ ready front)) c.put_search.ensures

pub returns-in-Err : goal.returns-in-Err
returns-in-Err c =
    let refusal = refused_case _ _ _ _ _ c.requires.given c.for_rows.ensures c.reduce.ensures c.in-Err.is in
    put_as _ _ (refused-is _ ∙ ap answer_text (reduce-refused c.args.day.counts _ _ _ _ _ _ refusal)) c.put_refusal.ensures
