-- The head's line with its number, then the plans' behind it.
use Rattle.text_lines.specs.Text.{number_line}
use Rattle.text_lines.specs.Pages.{plans_in}
use Rattle.text_lines.proofs.PutLaws.{fits_then, put_then}
use Rattle.text_lines.proofs.PlansLineLaws.{page-is}
use Rattle.text_lines.proofs.plans_lines.put_fitting_page.Goals as goal

pub put_plans-requires : goal.put_plans-requires
put_plans-requires c =
    let a = c.args in
    let p = c.requires in
    record {
      held = p.held;
      numbered = p.numbered;
      room = fits_then a.text.now.bytes.now a.text.now.next _ (number_line a.head.now a.number) _ (page-is a.head.now a.page.now.first a.number (plans_in a.page.now.count a.page.now.choices a.page.now.plans.now)) p.room c.put_number_line.ensures.put;
    }

pub returns-clause-put : goal.returns-clause-put
returns-clause-put c =
    let a = c.args in
    put_then a.text.now.bytes.now a.text.now.next _ (number_line a.head.now a.number) _ (page-is a.head.now a.page.now.first a.number (plans_in a.page.now.count a.page.now.choices a.page.now.plans.now)) c.requires.room c.put_number_line.ensures.put
    (λ f. c.put_plans.ensures.put)
