-- A tally with one case more, and what the end of a file adds to it.
use Rattle.std.specs.Prelude.{◌≡◌, ◌+◌, ◌%◌, ◌^◌, Bool, false, cond, ◌⊎◌, ◌==◌}
use Rattle.test_cases.specs.declared.Next.{Next}
use Rattle.test_cases.specs.declared.Next.TheVariants as next
use Rattle.test_cases.specs.declared.Tally.{Tally}

-- the tally before the first case
abbrev pub uncounted : Tally
uncounted = record { cases = 0; differ = 0; first = 0 }

-- the counts wrap; the first case that differs is kept by its number, and cases are numbered from 0 on
unfoldable pub counted : Tally → Bool → Tally
counted tally agrees =
    record {
      cases = (tally.cases + 1) % 2 ^ 64;
      differ = cond agrees tally.differ ((tally.differ + 1) % 2 ^ 64);
      first = cond agrees tally.first (cond (tally.differ == 0) tally.cases tally.first);
    }

-- a record that is broken counts as a case that differs
unfoldable pub closed : Next → Tally → Tally
closed (next.Record size) tally = tally
closed next.End tally = tally
closed next.Broken tally = counted tally false

-- the tally once the file was read on: as it was, or with the difference that a broken record counts as
abbrev pub ReadOn : Tally → Tally → Type 0
ReadOn before after = (after ≡ before) ⊎ (after ≡ counted before false)
