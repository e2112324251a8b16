-- The word, the number, the places and the line's end, each behind the one before.
use mathlib.Core.Path.{refl}
use mathlib.Core.List.{flat_map}
use Rattle.text_lines.specs.Text.{ascii, decimal}
use Rattle.text_lines.specs.PlansLines.{place_text}
use Rattle.text_lines.proofs.PutLaws.{fits_next, fits-second, fits_then, put_both, put_then, put-fits}
use Rattle.text_lines.proofs.PlansLineLaws.{plan-line-is}
use Rattle.text_lines.proofs.plans_lines.put_plan.Goals as goal

pub put_places-requires : goal.put_places-requires
put_places-requires c =
    fits-second _ _ _ (decimal c.args.number) (flat_map place_text c.args.plan.now) _ refl
    (fits_then c.args.text.now.bytes.now c.args.text.now.next _ (ascii "plan ") _ (plan-line-is c.args.number c.args.plan.now) c.requires c.put_bytes.ensures.put)
    c.put_number.ensures.put

pub returns-clause-put : goal.returns-clause-put
returns-clause-put c =
    let places = c.put_places.ensures.put in
    put_then c.args.text.now.bytes.now c.args.text.now.next _ (ascii "plan ") _ (plan-line-is c.args.number c.args.plan.now) c.requires c.put_bytes.ensures.put
    (λ f. put_then _ _ _ (decimal c.args.number) _ refl f c.put_number.ensures.put
    (λ g. put_both _ _ _ (flat_map place_text c.args.plan.now) _ refl places (put-fits _ _ _ (fits_next _ _ _ (flat_map place_text c.args.plan.now) _ refl g places) c.put_bytes-2.ensures.put)))
