-- A word, or a space and a number.
use Rattle.text_lines.specs.Text.{ascii}
use Rattle.text_lines.proofs.PutLaws.{put_then, put-fits, put_as}
use Rattle.text_lines.proofs.PlansLineLaws.{place_out, place-slot}
use Rattle.text_lines.proofs.plans_lines.put_place.Goals as goal

pub returns-then-place-eq255-clause-put : goal.returns-then-place-eq255-clause-put
returns-then-place-eq255-clause-put c =
    put-fits c.args.text.now.bytes.now c.args.text.now.next _ c.requires (put_as _ _ (place_out c.args.place c.if-place-eq255.true) c.put_bytes.ensures.put)

pub returns-clause-put : goal.returns-clause-put
returns-clause-put c =
    put_then c.args.text.now.bytes.now c.args.text.now.next _ (ascii " ") _ (place-slot c.args.place c.if-place-eq255.false) c.requires c.put_bytes-2.ensures.put (λ f. put-fits _ _ _ f c.put_number.ensures.put)
