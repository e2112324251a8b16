-- A tally by the case that it counts: one that agrees, the first that differs, a later one; and by what ends
-- its file.
use Rattle.std.proofs.Common.{◌≡◌, ℕ, ◌+◌, ◌%◌, ◌^◌, ◌≤◌, ◌<◌, arith, Bool, true, false, refl, inl, inr, ne_eqb}
use Rattle.test_cases.specs.declared.Next.{Next}
use Rattle.test_cases.specs.declared.Next.TheVariants as next
use Rattle.test_cases.specs.declared.Tally.{Tally}
use Rattle.test_cases.specs.steps.Tallies.{counted, uncounted, closed, ReadOn}

abbrev pub tallied : ℕ → ℕ → ℕ → Tally
tallied cases differ first = record { cases = cases; differ = differ; first = first }

pub agreed : (cases differ first n : ℕ) (agrees : Bool) → agrees ≡ true → n ≡ (cases + 1) % 2 ^ 64
    → tallied n differ first ≡ counted (tallied cases differ first) agrees
unfolding counted
agreed cases differ first n agrees a e = rw (a, e)

pub first-differs : (cases differ first n : ℕ) (agrees : Bool) → agrees ≡ false → differ ≡ 0 → n ≡ (cases + 1) % 2 ^ 64
    → tallied n 1 cases ≡ counted (tallied cases differ first) agrees
unfolding counted
first-differs cases differ first n agrees a z e = rw (a, z, e)

pub differs : (cases differ first n m : ℕ) (agrees : Bool) → agrees ≡ false → (differ ≡ 0 → ⊥) → n ≡ (cases + 1) % 2 ^ 64 → m ≡ (differ + 1) % 2 ^ 64
    → tallied n m first ≡ counted (tallied cases differ first) agrees
unfolding counted
differs cases differ first n m agrees a z e f = rw (a, e, f, ne_eqb _ _ z)

-- one case more: no more differ than there are
pub counted_more : (tally : Tally) (agrees : Bool) (n : ℕ) → tally.differ ≤ tally.cases → tally.cases ≤ n → n < 2 ^ 63
    → ((counted tally agrees).differ ≤ (counted tally agrees).cases) × ((counted tally agrees).cases ≤ n + 1)
unfolding counted
counted_more tally true n d c h = (omega arith, omega arith)
counted_more tally false n d c h = (omega arith, omega arith)

-- nor where the file is read on
read_on_more : (before after : Tally) (n : ℕ) → ReadOn before after → before.differ ≤ before.cases → before.cases ≤ n → n < 2 ^ 63
    → (after.differ ≤ after.cases) × (after.cases ≤ n + 1)
read_on_more before after n r d c h =
    elim r [ inl same ↦ rw same (d, omega (arith, c)) | inr broken ↦ rw broken (counted_more before false n d c h) ]

-- whatever comes next, it counts as one difference or as nothing
pub closes : (next : Next) (tally : Tally) → ReadOn tally (closed next tally)
unfolding closed
closes (next.Record size) tally = inl refl
closes next.End tally = inl refl
closes next.Broken tally = inr refl

-- a tally with nothing counted is the one before the first case
pub nothing_counted : (cases differ first : ℕ) → cases ≡ 0 → differ ≡ 0 → first ≡ 0 → tallied cases differ first ≡ uncounted
nothing_counted cases differ first c d f = rw (c, d, f)

-- a replay that has opened its file has one case at most
pub opened : (tally : Tally) → ReadOn uncounted tally → (tally.differ ≤ tally.cases) × (tally.cases ≤ 1)
opened tally r = read_on_more uncounted tally 0 r (omega arith) (omega arith) (omega arith)

-- a record judged and the next one read: two cases more at most, as a broken one is a case too
pub judged : (tally after : Tally) (agrees : Bool) (n : ℕ) → ReadOn (counted tally agrees) after → tally.differ ≤ tally.cases → tally.cases ≤ n → n < 2 ^ 62
    → (after.differ ≤ after.cases) × (after.cases ≤ n + 2)
judged tally after agrees n r d c h =
    let more = counted_more tally agrees n d c (omega (arith, h)) in
    let read = read_on_more _ after (n + 1) r more.0 more.1 (omega (arith, h)) in
    (read.0, omega (arith, read.1))
