-- What the loops over the groups share that lie one after another in a flat list, whatever they write for
-- each.
use mathlib.Core.Path.{◌≡◌}
use mathlib.Core.List.{List, flat_map}
use Prim.Native.Nat.{ℕ, ◌+◌, ◌≤◌, ◌<◌}
use native.Mathlib.Omega.{arith}
use lib.ListN.{length, get_or}
use lib.Seq.{sets}
use Rattle.base_lists.specs.steps.Cut.{cut_at}
use Rattle.base_lists.proofs.Cut.{Cuts, cut_here, cuts_fit, cuts_part, cuts_count}

-- a turn of such a loop, from one end to the next: its group lies within the members, what is written for it
-- can be counted, and once that is written the next turn begins at the group's end
pub record Turn (f : List ℕ → List ℕ) (ends members free₀ : List ℕ) (at₀ : ℕ) (free : List ℕ) (at start i end : ℕ) : Type 0 where
  pub rises : start ≤ end
  pub ends-within : end ≤ length members
  pub starts-within : start ≤ length members
  pub counts : (most : ℕ) → at₀ + length (flat_map f (cut_at 0 ends members)) < most → at + length (f (cut_here f ends members start end)) < most
  pub next : {free' : List ℕ} {at' : ℕ} → (at' ≡ at + length (f (cut_here f ends members start end))) × (free' ≡ sets free at (f (cut_here f ends members start end)))
      → Cuts f ends members free₀ at₀ free' at' end (i + 1)

-- the turn at an end that has been read
pub turn : (f : List ℕ → List ℕ) (ends members : List ℕ) {free₀ : List ℕ} {at₀ : ℕ} {free : List ℕ} {at : ℕ} (start i end : ℕ) → end ≡ get_or ends i 0 → i < length ends
    → Cuts f ends members free₀ at₀ free at start i → Turn f ends members free₀ at₀ free at start i end
turn f ends members start i end e h s =
    let k = cuts_fit f ends members start i end e h s in
    record {
      rises = k.0;
      ends-within = k.1;
      starts-within = omega (arith, k.0, k.1);
      counts = cuts_count f ends members start i end e h s;
      next = cuts_part f ends members start i end e h s;
    }
