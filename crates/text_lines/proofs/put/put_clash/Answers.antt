-- One text of bytes.
use mathlib.Core.Path.{◌≡◌}
use borrow.Author.Rules.{rules}
use Rattle.text_lines.specs.Put.{pool_lent, put_at}
use Rattle.text_lines.specs.Text.{clash_text}
use Rattle.text_lines.proofs.PutLaws.{put_as, put_front}
use Rattle.text_lines.proofs.NewlineLaws.{clash-is}
use Rattle.text_lines.proofs.put.put_clash.Goals as goal

pub returns : goal.returns
returns c =
    let put : pool_lent c.put_bytes.new.self ≡ put_at c.args.text.now 0 clash_text = put_as _ _ clash-is (put_front c.new-text.ensures.front _ c.put_bytes.ensures.put) in
    search rules
