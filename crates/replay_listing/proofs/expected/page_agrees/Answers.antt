-- What is lent is as long as the page.
use Rattle.std.proofs.Common.{sym, length-take-le}
use Rattle.replay_listing.proofs.expected.page_agrees.Goals as goal

pub slice_bounds-lent-end-2 : goal.slice_bounds-lent-end-2
slice_bounds-lent-end-2 c =
    sym (length-take-le c.bytes_of-size.result c.args.buffer.now c.if-buffer-size.false)
