use Rattle.search_turn.proofs.DepthLaws.{opens-old, opens-deep, opens-pool, opens-next, opens-end}
use Rattle.search_turn.proofs.depth.opens.Goals as goal

pub returns-then-not-new : goal.returns-then-not-new
returns-then-not-new c =
    opens-old _ _ _ _ _ (c.if-not-new.true)

pub returns-then-depth-gt64 : goal.returns-then-depth-gt64
returns-then-depth-gt64 c =
    opens-deep _ _ _ _ _ (c.if-not-new.false) c.if-depth-gt64.true

pub returns-then-pool-ne1625 : goal.returns-then-pool-ne1625
returns-then-pool-ne1625 c =
    opens-pool _ _ _ _ _ (c.if-not-new.false) c.if-depth-gt64.false c.if-pool-ne1625.true

pub returns-then-next-ne65 : goal.returns-then-next-ne65
returns-then-next-ne65 c =
    opens-next _ _ _ _ _ (c.if-not-new.false) c.if-depth-gt64.false c.if-pool-ne1625.false c.if-next-ne65.true

pub returns : goal.returns
returns c =
    opens-end _ _ _ _ _ (c.if-not-new.false) c.if-depth-gt64.false c.if-pool-ne1625.false c.if-next-ne65.false
