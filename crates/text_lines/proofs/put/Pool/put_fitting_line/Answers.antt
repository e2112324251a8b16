-- The word, the number and the line's end, each behind the one before.
use mathlib.Core.Path.{refl}
use Rattle.text_lines.specs.Text.{decimal}
use Rattle.text_lines.proofs.PutLaws.{put_then, put-fits}
use Rattle.text_lines.proofs.NewlineLaws.{number-line-is}
use Rattle.text_lines.proofs.put.Pool.put_fitting_line.Goals as goal

pub returns-clause-put : goal.returns-clause-put
returns-clause-put c =
    let a = c.args in
    put_then a.self.now.bytes.now a.self.now.next _ a.word.now _ (number-line-is a.word.now a.number) c.requires c.put_bytes.ensures.put
    (λ f. put_then _ _ _ (decimal a.number) _ refl f c.put_number.ensures.put (λ g. put-fits _ _ _ g c.put_bytes-2.ensures.put))
