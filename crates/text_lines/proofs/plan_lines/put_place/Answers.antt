-- A word, or a line with the slot at its end.
use Rattle.text_lines.proofs.PutLaws.{put-fits, put_as}
use Rattle.text_lines.proofs.PlanLineLaws.{place_out, place-slot}
use Rattle.text_lines.proofs.plan_lines.put_place.Goals as goal

pub returns-then-place-eq255-clause-put : goal.returns-then-place-eq255-clause-put
returns-then-place-eq255-clause-put c =
    put-fits c.args.text.now.bytes.now c.args.text.now.next _ c.requires (put_as _ _ (place_out c.args.place c.if-place-eq255.true) c.put_bytes.ensures.put)

pub returns-clause-put : goal.returns-clause-put
returns-clause-put c =
    put-fits c.args.text.now.bytes.now c.args.text.now.next _ c.requires (put_as _ _ (place-slot c.args.place c.if-place-eq255.false) c.put_number_line.ensures.put)
