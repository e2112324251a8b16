-- Counts that are in range: each is within its limit.
use mathlib.Core.Path.{◌≡◌}
use mathlib.Core.Bool.{true, ◌&&◌}
use Prim.Native.Nat.{◌≤◌}
use borrow.Author.Tests.{leb-true}
use lib.Dec.{leb}
use Rattle.base_lists.proofs.Below.{and_left, and_right}
use Rattle.day_rows.specs.Check.{counts_in_range, most_rows}
use Rattle.day_rows.specs.declared.check.Counts.{Counts}
use Rattle.day_rows.specs.declared.check.Takes.{Takes}

-- 'Choices C 0..64, slots S 0..24, choosers H 0..200, .. given rows 0..128, reduced rows 0..1,024'
pub record Within (counts : Counts) (takes : Takes) : Type 0 where
  pub choices : counts.choices ≤ 64
  pub slots : counts.slots ≤ 24
  pub choosers : counts.choosers ≤ 200
  pub rows : counts.rows ≤ most_rows takes

pub within : (counts : Counts) (takes : Takes) → counts_in_range counts takes ≡ true → Within counts takes
unfolding counts_in_range
within counts takes h =
    let c = leb counts.choices 64 in
    let s = leb counts.slots 24 in
    let o = leb counts.choosers 200 in
    let r = leb counts.rows (most_rows takes) in
    let cso = and_left (c && s && o) r h in
    let cs = and_left (c && s) o cso in
    record {
      choices = leb-true _ _ (and_left c s cs);
      slots = leb-true _ _ (and_right c s cs);
      choosers = leb-true _ _ (and_right (c && s) o cso);
      rows = leb-true _ _ (and_right (c && s && o) r h);
    }
