-- Files: what is written is read back, and what is read is written back.
use mathlib.Core.Path.{◌≡◌, refl, sym, ap}
use mathlib.Core.List.{List}
use Prim.Native.Nat.{ℕ}
use lib.ListN.{length}
use Rattle.base_lists.specs.Pool.{pad}
use Rattle.day_rows.specs.Told.{done, refused, Verdict, good, unless, Outcome, outcome, judged}
use Rattle.day_rows.proofs.ToldLaws.{done-is, refused-not-done, unless-done}
use Rattle.day_file.specs.FileDay.{Parts, FileDay, pools_full, padded}
use Rattle.day_file.specs.File.{bytes_of, counts_in, lists_in, day_in, longest_file}
use Rattle.day_file.specs.Calls.{file_judged, read_of}
use Rattle.day_file.specs.declared.counts.FileCounts.{FileCounts}
use Rattle.day_write.proofs.RoundTrip.{writes, written_reads, read-writes}
use Rattle.promises.specs.Promises.{WrittenIsRead, ReadIsWritten}

pub written-is-read : (day : FileDay) → WrittenIsRead day
written-is-read day h pool e pools f =
    let w = writes day h pool e in
    (length (bytes_of day), pad longest_file (bytes_of day), w, written_reads day h pool e (sym w) pools f)

-- a file that is read is good, and its day is the one in its bytes
record ReadSo (file : List ℕ) (after : Parts) (counts : FileCounts) : Type 0 where
  is-good : file_judged file ≡ good
  counted : counts ≡ (day_in file).counts
  filled : after ≡ padded (day_in file).lists

read_so : (file : List ℕ) (pools after : Parts) (counts : FileCounts) → read_of file pools ≡ outcome (done counts) after → ReadSo file after counts
unfolding read_of
read_so file pools after counts e = go (unless (pools_full pools) 2 (file_judged file)) refl e
  where
    go : (v : Verdict) → unless (pools_full pools) 2 (file_judged file) ≡ v
        → judged v pools (outcome (done (counts_in file)) (padded (lists_in file (counts_in file)))) ≡ outcome (done counts) after → ReadSo file after counts
    go (done value) g h =
        record {
          is-good = (unless-done (pools_full pools) 2 (file_judged file) g).1;
          counted = sym (done-is (ap (λ (o : Outcome FileCounts Parts). o.answer) h));
          filled = sym (ap (λ (o : Outcome FileCounts Parts). o.buffers) h);
        }
    go (refused number carried) g h = absurd (refused-not-done (ap (λ (o : Outcome FileCounts Parts). o.answer) h))

pub read-is-written : (file : List ℕ) → ReadIsWritten file
read-is-written file bytes pools after counts e pool l =
    let r = read_so file pools after counts e in
    (r.counted, r.filled, read-writes file bytes r.is-good pool l)
