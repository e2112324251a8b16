-- Line one and the three figures, each behind the one before.
use mathlib.Core.Path.{refl}
use Rattle.text_lines.specs.Text.{ascii, number_line}
use Rattle.text_lines.proofs.PutLaws.{put_then, put-fits}
use Rattle.text_lines.proofs.PlanLineLaws.{figures-is}
use Rattle.text_lines.proofs.plan_lines.put_figures.Goals as goal

pub returns-clause-put : goal.returns-clause-put
returns-clause-put c =
    put_then _ _ _ c.args.line.now _ refl c.requires c.put_bytes.ensures.put
    (λ f. put_then _ _ _ (number_line (ascii "turns ") c.args.figures.turns) _ (figures-is c.args.figures.turns c.args.figures.passes c.args.figures.limit) f c.put_number_line.ensures.put
    (λ g. put_then _ _ _ (number_line (ascii "passes ") c.args.figures.passes) _ refl g c.put_number_line-2.ensures.put (λ h. put-fits _ _ _ h c.put_number_line-3.ensures.put)))
