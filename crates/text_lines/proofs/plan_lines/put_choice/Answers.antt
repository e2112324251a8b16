-- The word, the number and the place, each behind the one before.
use mathlib.Core.Path.{refl}
use Rattle.text_lines.specs.Text.{ascii, decimal}
use Rattle.text_lines.proofs.PutLaws.{fits_then, put_then}
use Rattle.text_lines.proofs.PlanLineLaws.{choice-line-is}
use Rattle.text_lines.proofs.plan_lines.put_choice.Goals as goal

pub put_place-requires : goal.put_place-requires
put_place-requires c =
    fits_then _ _ _ (decimal c.args.choice) _ refl
    (fits_then c.args.text.now.bytes.now c.args.text.now.next _ (ascii "choice ") _ (choice-line-is c.args.choice c.args.place) c.requires c.put_bytes.ensures.put)
    c.put_number.ensures.put

pub returns-clause-put : goal.returns-clause-put
returns-clause-put c =
    put_then c.args.text.now.bytes.now c.args.text.now.next _ (ascii "choice ") _ (choice-line-is c.args.choice c.args.place) c.requires c.put_bytes.ensures.put
    (λ f. put_then _ _ _ (decimal c.args.choice) _ refl f c.put_number.ensures.put (λ g. c.put_place.ensures.put))
