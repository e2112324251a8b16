use Rattle.search_turn.proofs.draw.draw_after.Goals as goal

pub returns-then-drew : goal.returns-then-drew
returns-then-drew c =
    rw c.if-drew.true c.next_draw.ensures
