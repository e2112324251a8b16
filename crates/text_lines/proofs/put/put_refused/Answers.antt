-- A line with the number at its end.
use mathlib.Core.Path.{◌≡◌}
use borrow.Author.Rules.{rules}
use Rattle.text_lines.specs.Put.{pool_lent, put_at}
use Rattle.text_lines.specs.Text.{refused_text}
use Rattle.text_lines.proofs.PutLaws.{put_as, put_front}
use Rattle.text_lines.proofs.NewlineLaws.{refused-is}
use Rattle.text_lines.proofs.put.put_refused.Goals as goal

pub returns : goal.returns
returns c =
    let put : pool_lent c.put_number_line.new.self ≡ put_at c.args.text.now 0 (refused_text c.args.number) =
    put_as _ _ (refused-is c.args.number) (put_front c.new-text.ensures.front _ c.put_number_line.ensures.put) in
    search rules
