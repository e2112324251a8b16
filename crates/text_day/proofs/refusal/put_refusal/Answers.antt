-- The line with 01's number.
use mathlib.Core.Path.{◌∙◌, ap}
use Rattle.text_lines.specs.Text.{refused_text}
use Rattle.text_lines.proofs.PutLaws.{put_as}
use Rattle.text_day.proofs.refusal.put_refusal.Goals as goal

pub returns : goal.returns
returns c =
    put_as _ _ (ap refused_text (c.from-2.ensures ∙ c.from.ensures)) c.put_refused.ensures
