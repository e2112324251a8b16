-- The page of the day, told in one of three ways, and its text.
use mathlib.Core.Path.{◌≡◌, sym, ◌∙◌, ap}
use Prim.Native.Nat.{◌^◌, ◌<◌, ◌≤◌}
use native.Mathlib.Omega.{arith}
use lib.ListN.{replicate, length}
use Rattle.std.specs.Prelude.{Ok}
use Rattle.list_nodes.specs.Page.{ended_told, goes_on_told, turns_told}
use Rattle.list_starts.specs.declared.page_end.Paged.TheVariants as paged
use Rattle.list_starts.specs.PageAnswer.{paged_tells}
use Rattle.text_lines.specs.Text.{ascii}
use Rattle.text_lines.proofs.PlansLineLaws.{ended_is, goes_on-is, turns-is}
use Rattle.text_plans.proofs.ListedLaws.{page-full, page-size, page-fits, lent_length, page_puts, page-refused}
use borrow.Author.Rules.{rules}
use Rattle.text_plans.proofs.text.put_plans_of.Goals as goal

pub overflow_mul-size : goal.overflow_mul-size
overflow_mul-size c =
    let h = page-size _ c.args.asked.now.first _ c.args.budget c.requires.judged c.requires.room (replicate 65536 0) page-full in omega (arith, h)

pub slice_bounds-buffer-end : goal.slice_bounds-buffer-end
slice_bounds-buffer-end c =
    page-fits _ c.args.asked.now.first _ c.args.budget c.requires.judged c.requires.room (replicate 65536 0) page-full

pub slice_bounds-list_page-end : goal.slice_bounds-list_page-end
slice_bounds-list_page-end c =
    sym (lent_length _ c.args.asked.now.first _ c.args.budget c.requires.judged c.requires.room (replicate 65536 0) page-full)

pub returns-in-Ok-Ended : goal.returns-in-Ok-Ended
returns-in-Ok-Ended c =
    let call = c.list_page in
    let page = c.in-Ok-Ended in
    let is : call.result ≡ Ok (paged.Ended page.written page.total) = page.is ∙ ap Ok page.field-0-is in
    let made = c.page_of-page.ensures in
    let first : c.args.asked.now.first < 2 ^ 64 = search rules in
    let all : page.total < 2 ^ 64 = search rules in
    let short : length (ascii "result listed\ntotal ") ≤ 29 = omega arith in
    page_puts _ _ _ _ c.requires.judged c.requires.room (replicate 65536 0) page-full call.result call.ensures (ended_told page.written page.total) (ap paged_tells is)
    (ascii "result listed\ntotal ") short (ended_is c.args.asked.now.first page.total) c.args.text.now c.requires.full first all made.first made.count made.choices made.plans c.put_page.ensures

pub returns-in-Ok-GoesOn : goal.returns-in-Ok-GoesOn
returns-in-Ok-GoesOn c =
    let call = c.list_page in
    let page = c.in-Ok-GoesOn in
    let is : call.result ≡ Ok (paged.GoesOn page.written page.met) = page.is ∙ ap Ok page.field-0-is in
    let made = c.page_of-page-in-Ok-GoesOn.ensures in
    let first : c.args.asked.now.first < 2 ^ 64 = search rules in
    let all : page.met < 2 ^ 64 = search rules in
    let short : length (ascii "result listed\ntotal at least ") ≤ 29 = omega arith in
    page_puts _ _ _ _ c.requires.judged c.requires.room (replicate 65536 0) page-full call.result call.ensures (goes_on_told page.written page.met) (ap paged_tells is)
    (ascii "result listed\ntotal at least ") short (goes_on-is c.args.asked.now.first page.met) c.args.text.now c.requires.full first all made.first made.count made.choices made.plans c.put_page-in-Ok-GoesOn.ensures

pub returns-in-Ok-Turns : goal.returns-in-Ok-Turns
returns-in-Ok-Turns c =
    let call = c.list_page in
    let page = c.in-Ok-Turns in
    let is : call.result ≡ Ok (paged.Turns page.written page.met) = page.is ∙ ap Ok page.field-0-is in
    let made = c.page_of-page-in-Ok-Turns.ensures in
    let first : c.args.asked.now.first < 2 ^ 64 = search rules in
    let all : page.met < 2 ^ 64 = search rules in
    let short : length (ascii "result turns\ntotal at least ") ≤ 29 = omega arith in
    page_puts _ _ _ _ c.requires.judged c.requires.room (replicate 65536 0) page-full call.result call.ensures (turns_told page.written page.met) (ap paged_tells is)
    (ascii "result turns\ntotal at least ") short (turns-is c.args.asked.now.first page.met) c.args.text.now c.requires.full first all made.first made.count made.choices made.plans c.put_page-in-Ok-Turns.ensures

pub returns-in-Err : goal.returns-in-Err
returns-in-Err c =
    absurd (page-refused _ _ _ _ c.requires.judged c.requires.room (replicate 65536 0) page-full c.list_page.result c.list_page.ensures c.in-Err.is)
