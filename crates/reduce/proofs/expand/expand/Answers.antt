-- The turned rows are read back from where they were written.
use Rattle.reduce.proofs.Filling.{turned-is, turned-within, turned-length, filled-expanded}
use Rattle.reduce.proofs.expand.expand.Goals as goal

pub slice_bounds-numbers-end : goal.slice_bounds-numbers-end
slice_bounds-numbers-end c =
    turned-within c.args.rows.now _ _ c.requires.rows_in c.rows_to_pair-turned.ensures

pub slice_bounds-add_following-end : goal.slice_bounds-add_following-end
slice_bounds-add_following-end c =
    turned-length c.args.rows.now _ _ c.requires.rows_in c.rows_to_pair-turned.ensures

pub returns : goal.returns
returns c =
    filled-expanded _ _ _ _ _ _ (turned-is c.args.rows.now _ _ c.requires.rows_in c.rows_to_pair-turned.ensures) c.add_following.ensures
