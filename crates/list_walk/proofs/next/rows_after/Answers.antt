-- Nothing past the list, or the rest of it.
use Rattle.std.proofs.Common.{sym, arith, drop_of_length-le}
use Rattle.list_walk.proofs.NextLaws.{rest-whole}
use Rattle.list_walk.proofs.next.rows_after.Goals as goal

pub returns-then-rows-front : goal.returns-then-rows-front
returns-then-rows-front c = sym (drop_of_length-le c.args.rows.now {i = c.args.front} (omega (arith, c.if-rows-front.true)))

pub returns : goal.returns
returns c = rest-whole c.args.rows.now c.args.front (omega (arith, c.if-rows-front.false))
