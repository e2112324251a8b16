-- Writing and reading are each other's way back, every day can be written, and no two outcomes fit the
-- writer's promise.
use mathlib.Core.Path.{◌≡◌, sym, ◌∙◌, ap}
use mathlib.Core.Bool.{true}
use mathlib.Core.List.{List}
use Prim.Native.Nat.{ℕ, ◌≤◌}
use native.Mathlib.Omega.{arith}
use borrow.Author.Tests.{eq-eqb}
use lib.ListN.{length, take}
use lib.Seq.{take_at}
use Rattle.base_lists.specs.Pool.{pad}
use Rattle.std.specs.Prelude.{Result}
use Rattle.day_rows.specs.Told.{done, good, Outcome, outcome, tells}
use Rattle.day_rows.specs.declared.refusal.Refusal.{Refusal}
use Rattle.day_rows.proofs.ToldLaws.{one_told-outcome, done-is}
use Rattle.day_file.specs.FileDay.{Parts, FileDay, is_day, pools_full, padded}
use Rattle.day_file.specs.File.{bytes_of, day_in, longest_file}
use Rattle.day_file.specs.Calls.{file_judged, read_of}
use Rattle.day_file.proofs.CountLaws.{in_range}
use Rattle.day_file.proofs.FileLaws.{lengths, length-bytes, end-most}
use Rattle.day_file.proofs.FormatLaws.{Bytes}
use Rattle.day_file.proofs.DayLaws.{IsDay, day-says, day_of-file, file-back, reads_back}
use Rattle.day_write.specs.Calls.{lists_judged, day_judged, write_of}

-- the file of every day within the limits fits the pool
pub day-fits : (d : FileDay) → is_day d ≡ true → length (bytes_of d) ≤ longest_file
day-fits d h =
    let k = day-says d h in
    omega (arith, length-bytes d.counts d.lists (lengths d.counts d.lists k.lengths-keep), end-most (in_range d.counts k.counts-keep))

judged-good : (d : FileDay) → IsDay d → (room : ℕ) → room ≡ longest_file → day_judged d room ≡ good
unfolding day_judged lists_judged
judged-good d k room e =
    rw (k.counts-keep, k.lengths-keep, eq-eqb _ _ e, k.levels-keep, k.preferences-keep, k.rows-keep, k.optional-keep)

-- every day within the limits can be written
pub writes : (d : FileDay) → is_day d ≡ true → (pool : List ℕ) → length pool ≡ longest_file
    → write_of d pool ≡ outcome (done (length (bytes_of d))) (pad longest_file (bytes_of d))
unfolding write_of
writes d h pool e = rw (judged-good d (day-says d h) (length pool) e)

-- what is written reads back as the same day: the bytes that the answer counts are a file of that day
pub written_reads : (d : FileDay) → is_day d ≡ true → (before : List ℕ) → length before ≡ longest_file → {n : ℕ} {pool : List ℕ} → outcome (done n) pool ≡ write_of d before
    → (pools : Parts) → pools_full pools ≡ true → read_of (take n pool) pools ≡ outcome (done d.counts) (padded d.lists)
unfolding pad
written_reads d h before e {n} {pool} w pools f =
    let z = w ∙ writes d h before e in
    let p : pool ≡ pad longest_file (bytes_of d) = ap (λ (o : Outcome ℕ (List ℕ)). o.buffers) z in
    let m : n ≡ length (bytes_of d) = done-is (ap (λ (o : Outcome ℕ (List ℕ)). o.answer) z) in
    ap (λ (file : List ℕ). read_of file pools) (rw p (take_at (bytes_of d) _ n (sym m))) ∙ reads_back d h pools f

-- what reads writes back as the same bytes, exactly
pub read-writes : (file : List ℕ) → Bytes file → file_judged file ≡ good → (pool : List ℕ) → length pool ≡ longest_file
    → write_of (day_in file) pool ≡ outcome (done (length file)) (pad longest_file file)
unfolding write_of
read-writes file bytes g pool e =
    rw (judged-good (day_in file) (day_of-file file bytes g) (length pool) e)
    (ap (λ (l : List ℕ). outcome (done (length l)) (pad longest_file l)) (file-back file bytes g))

-- no two outcomes fit the writer's promise
pub one_writing : (d : FileDay) (before : List ℕ) {r s : Result ℕ Refusal} {p q : List ℕ} → outcome (tells r) p ≡ write_of d before → outcome (tells s) q ≡ write_of d before
    → (r ≡ s) × (p ≡ q)
one_writing d before = one_told-outcome
