-- A page past the limits isn't put; the text of any other has room.
use mathlib.Core.Path.{◌≡◌, sym, ◌∙◌}
use Prim.Native.Nat.{◌+◌, ◌^◌, ◌<◌}
use native.Mathlib.Omega.{arith}
use borrow.Author.Tests.{leb-true, leb-false}
use borrow.Author.Rules.{rules}
use Rattle.text_lines.specs.Put.{pool_lent}
use Rattle.text_lines.specs.PlansLines.{page_text}
use Rattle.text_lines.specs.Pages.{plans_lent, put_page}
use Rattle.text_lines.proofs.PutLaws.{put_some, fits_front, puts_front}
use Rattle.text_lines.proofs.PlansFitLaws.{page-fits}
use Rattle.text_lines.proofs.PageLaws.{places-few, over-count, over-choices, short-page, over-number, over-head, short-text, page-put}
use Rattle.text_lines.proofs.plans_lines.put_page.Goals as goal

pub returns-then-page-gt1024 : goal.returns-then-page-gt1024
returns-then-page-gt1024 c = over-count _ _ _ _ _ _ _ c.if-page-gt1024.true

pub returns-then-page-gt64 : goal.returns-then-page-gt64
returns-then-page-gt64 c = over-choices _ _ _ _ _ _ _ c.if-page-gt1024.false c.if-page-gt64.true

pub overflow_mul-page : goal.overflow_mul-page
overflow_mul-page c = let h = places-few _ _ c.if-page-gt1024.false c.if-page-gt64.false in omega (arith, h)

pub returns-then-not-holds : goal.returns-then-not-holds
returns-then-not-holds c = short-page _ _ _ _ _ _ _ c.if-page-gt1024.false c.if-page-gt64.false (leb-false _ _ (sym c.holds.ensures.held ∙ c.if-not-holds.true))

pub returns-then-page : goal.returns-then-page
returns-then-page c = over-number _ _ _ _ _ _ _ c.if-page-gt1024.false c.if-page-gt64.false (leb-true _ _ (sym c.holds.ensures.held ∙ c.if-not-holds.false)) (omega (arith, c.if-page.true))

pub returns-then-head-gt29 : goal.returns-then-head-gt29
returns-then-head-gt29 c =
    let s = c in
    over-head _ _ _ _ _ _ _ c.if-page-gt1024.false c.if-page-gt64.false (leb-true _ _ (sym c.holds.ensures.held ∙ c.if-not-holds.false)) (omega (arith, c.if-page.false)) c.if-head-gt29.true

pub returns-then-text-lt288818 : goal.returns-then-text-lt288818
returns-then-text-lt288818 c =
    let s = c in
    short-text _ _ _ _ _ _ _ c.if-page-gt1024.false c.if-page-gt64.false (leb-true _ _ (sym c.holds.ensures.held ∙ c.if-not-holds.false)) (omega (arith, c.if-page.false)) c.if-head-gt29.false c.if-text-lt288818.true

pub put_fitting_page-requires : goal.put_fitting_page-requires
put_fitting_page-requires c =
    let s = c in
    let a = s.args in
    record {
      held = (leb-true _ _ (sym c.holds.ensures.held ∙ c.if-not-holds.false));
      numbered = omega (arith, c.if-page.false);
      room = fits_front c.new-text.ensures.front (page_text a.head.now a.page.now.first a.number (plans_lent a.page.now)) (page-fits a.head.now a.page.now.first a.number a.page.now.count a.page.now.choices a.page.now.plans.now a.text.now c.if-page-gt1024.false c.if-page-gt64.false c.if-head-gt29.false c.holds.ensures.bytes c.if-text-lt288818.false);
    }

pub returns : goal.returns
returns c =
    let a = c.args in
    let page = a.page.now in
    let f : page.first + page.count < 2 ^ 64 = omega (arith, c.if-page.false) in
    let held = leb-true _ _ (sym c.holds.ensures.held ∙ c.if-not-holds.false) in
    let fits = page-fits a.head.now page.first a.number page.count page.choices page.plans.now a.text.now c.if-page-gt1024.false c.if-page-gt64.false c.if-head-gt29.false c.holds.ensures.bytes c.if-text-lt288818.false in
    let put : pool_lent c.put_fitting_page.new.text ≡ put_page a.text.now a.head.now page.first a.number page.count page.choices page.plans.now =
    put_some a.text.now 0 _ fits (puts_front c.new-text.ensures.front (page_text a.head.now page.first a.number (plans_lent page)) c.put_fitting_page.ensures.put)
    ∙ sym (page-put a.text.now a.head.now page.first a.number page.count page.choices page.plans.now c.if-page-gt1024.false c.if-page-gt64.false held f c.if-head-gt29.false c.if-text-lt288818.false) in
    search rules
