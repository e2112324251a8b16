-- Nothing for other kinds; the copies in every group for 11 and 12.
use mathlib.Core.Path.{refl, sym, ◌∙◌}
use Rattle.base_lists.specs.steps.Cut.{cut_at}
use Rattle.base_lists.proofs.Stores.{stored-none}
use Rattle.reduce_added.proofs.Copying.{uncopied, copied}
use Rattle.reduce_added.proofs.copies.copies_for.Goals as goal

pub returns-then-not-is_copied : goal.returns-then-not-is_copied
returns-then-not-is_copied c = (refl, stored-none _ _ (uncopied _ _ c.from-row.ensures (sym c.is_copied.ensures ∙ c.if-not-is_copied.true)))

pub copies_of-requires : goal.copies_of-requires
copies_of-requires c =
    let s = c in
    let e = copied (cut_at 0 s.args.groups.now.ends.now s.args.groups.now.members.now) s.args.number c.from-row.ensures (sym c.is_copied.ensures ∙ c.if-not-is_copied.false) in
    (s.requires.0, (rw e at s.requires.1))

pub returns : goal.returns
returns c =
    let s = c in
    let e = copied (cut_at 0 s.args.groups.now.ends.now s.args.groups.now.members.now) s.args.number c.from-row.ensures (sym c.is_copied.ensures ∙ c.if-not-is_copied.false) in
    rw e c.copies_of.ensures
