-- No pairs, or those of the list that is read back.
use mathlib.Core.Path.{refl}
use Rattle.base_lists.proofs.Stores.{stored-none}
use Rattle.reduce_added.proofs.Pairing.{unmarked-pairs, list-within, list_length, list-countable, list_wrote}
use Rattle.reduce_added.proofs.pairs.pairs_for.Goals as goal

pub returns-then-named_at-eq0 : goal.returns-then-named_at-eq0
returns-then-named_at-eq0 c =
    let s = c in
    (refl, stored-none _ _ (unmarked-pairs s.args.rows.now s.args.named.now s.args.chooser s.requires.1 (c.named_at.ensures c.if-named_at-eq0.true)))

pub slice_bounds-pairs_of-end : goal.slice_bounds-pairs_of-end
slice_bounds-pairs_of-end c =
    let s = c in
    list-within s.args.rows.now s.args.chooser s.args.list.now _ _ s.requires.0 c.mandatory-count.ensures

pub slice_bounds-pairs_of-end-2 : goal.slice_bounds-pairs_of-end-2
slice_bounds-pairs_of-end-2 c =
    let s = c in
    list_length s.args.rows.now s.args.chooser s.args.list.now _ _ s.requires.0 c.mandatory-count.ensures

pub pairs_of-requires : goal.pairs_of-requires
pairs_of-requires c =
    let s = c in
    list-countable s.args.rows.now s.args.chooser s.args.list.now _ _ s.requires.0 c.mandatory-count.ensures _ _ s.requires.2

pub returns : goal.returns
returns c =
    let s = c in
    let w = c.pairs_of.ensures in
    (w.0, list_wrote s.args.rows.now s.args.chooser s.args.list.now _ _ s.requires.0 c.mandatory-count.ensures _ _ _ _ w.1)
