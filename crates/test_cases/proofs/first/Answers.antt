-- The part is as long as asked, and a list that is shorter is all of it.
use Rattle.std.proofs.Common.{sym, arith, length-take-le, take_all}
use Rattle.test_cases.proofs.first.Goals as goal

pub returns-then-list-n : goal.returns-then-list-n
returns-then-list-n g c =
    sym (take_all c.args.n c.args.list.now (omega arith))

pub slice_bounds-result-end : goal.slice_bounds-result-end
slice_bounds-result-end g c =
    sym (length-take-le c.args.n c.args.list.now c.if-list-n.false)
