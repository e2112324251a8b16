-- The part is as long as asked, and a text that is shorter is all of it.
use Rattle.std.proofs.Common.{sym, arith, length-take-le, take_all}
use Rattle.text_lines.proofs.program.front.Goals as goal

pub returns-then-text-size : goal.returns-then-text-size
returns-then-text-size c =
    sym (take_all c.args.size c.args.text.now (omega arith))

pub slice_bounds-result-end : goal.slice_bounds-result-end
slice_bounds-result-end c =
    sym (length-take-le c.args.size c.args.text.now c.if-text-size.false)
