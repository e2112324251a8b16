-- Days and files: every day's file reads as that day, every good file is the file of a day, and no two days
-- have one file.
use mathlib.Core.Path.{◌≡◌, refl, sym, ◌∙◌, ap}
use mathlib.Core.Bool.{true, ◌&&◌, false≢true}
use mathlib.Core.List.{List}
use Prim.Native.Nat.{ℕ, ◌+◌, ◌*◌, ◌-◌, ◌≤◌}
use native.Mathlib.Omega.{arith}
use borrow.Author.Tests.{le-leb, eq-eqb}
use lib.Dec.{leb}
use lib.ListN.{length}
use Rattle.base_lists.specs.All.{all_at_most}
use Rattle.base_lists.specs.Flat.{list_below}
use Rattle.base_lists.proofs.Below.{and_left, and_right, each_all}
use Rattle.base_lists.proofs.Flat.{length-list}
use Rattle.day_rows.specs.Told.{done, refused, Verdict, good, outcome}
use Rattle.day_rows.proofs.ToldLaws.{unless-done, then_done}
use Rattle.day_rows.specs.Levels.{levels_rise, last_level}
use Rattle.day_file.specs.FileDay.{Parts, FileDay, file_counts_in_range, file_lengths_fit, day_rows_judged, is_good, is_day, pools_full, padded}
use Rattle.day_file.specs.File.{word_at, places_of, counts_in, lists_in, day_in, bytes_of}
use Rattle.day_file.specs.Calls.{head_judged, body_judged, file_judged, read_of}
use Rattle.day_file.specs.declared.counts.FileCounts.{FileCounts}
use Rattle.day_file.proofs.CountLaws.{InRange, in_range}
use Rattle.day_file.proofs.JudgeLaws.{at-most-list, last-list}
use Rattle.day_file.proofs.ReadLaws.{head-good, Head, good-head, file_body, read-good}
use Rattle.day_file.proofs.FileLaws.{Lengths, lengths, length-bytes}
use Rattle.day_file.proofs.FormatLaws.{Bytes, counts-back, version-back, length_back, lists_back, day-back}
use Rattle.day_file.proofs.BytesLaws.{word-under, bytes_back}

pub good-is : (verdict : Verdict) → is_good verdict ≡ true → verdict ≡ good
good-is (done value) h = refl
good-is (refused number carried) h = absurd (false≢true h)

-- what makes a day, test by test of `is_day`
pub record IsDay (d : FileDay) : Type 0 where
  pub counts-keep : file_counts_in_range d.counts ≡ true
  pub lengths-keep : file_lengths_fit d.counts d.lists ≡ true
  pub mins-keep : all_at_most 65535 d.lists.mins ≡ true
  pub maxs-keep : all_at_most 65535 d.lists.maxs ≡ true
  pub optional-keep : all_at_most 1 d.lists.optional ≡ true
  pub levels-keep : levels_rise d.lists.levels ≡ true
  pub last-keeps : leb (last_level d.lists.levels) 65535 ≡ true
  pub preferences-keep : all_at_most (last_level d.lists.levels) d.lists.preferences ≡ true
  pub rows-keep : day_rows_judged d ≡ good

pub day-says : (d : FileDay) → is_day d ≡ true → IsDay d
unfolding is_day
day-says d h =
    let a = file_counts_in_range d.counts in
    let b = a && file_lengths_fit d.counts d.lists in
    let c = b && all_at_most 65535 d.lists.mins in
    let e = c && all_at_most 65535 d.lists.maxs in
    let f = e && all_at_most 1 d.lists.optional in
    let g = f && levels_rise d.lists.levels in
    let i = g && leb (last_level d.lists.levels) 65535 in
    let j = i && all_at_most (last_level d.lists.levels) d.lists.preferences in
    let hj = and_left j _ h in
    let hi = and_left i _ hj in
    let hg = and_left g _ hi in
    let hf = and_left f _ hg in
    let he = and_left e _ hf in
    let hc = and_left c _ he in
    let hb = and_left b _ hc in
    record {
      counts-keep = and_left a _ hb;
      lengths-keep = and_right a _ hb;
      mins-keep = and_right b _ hc;
      maxs-keep = and_right c _ he;
      optional-keep = and_right e _ hf;
      levels-keep = and_right f _ hg;
      last-keeps = and_right g _ hi;
      preferences-keep = and_right i _ hj;
      rows-keep = good-is (day_rows_judged d) (and_right j _ h);
    }

pub says-day : (d : FileDay) → IsDay d → is_day d ≡ true
unfolding is_day
says-day d k =
    rw
    (k.counts-keep, k.lengths-keep, k.mins-keep, k.maxs-keep, k.optional-keep, k.levels-keep, k.last-keeps, k.preferences-keep, k.rows-keep)

-- the file of a day is good
module _ (d : FileDay) (k : IsDay d) where
  range : InRange d.counts
  range = in_range d.counts k.counts-keep

  long : Lengths d.counts d.lists
  long = lengths d.counts d.lists k.lengths-keep

  size : length (bytes_of d) ≡ (places_of 5 d.counts).end
  size = length-bytes d.counts d.lists long

  same-counts : counts_in (bytes_of d) ≡ d.counts
  same-counts = counts-back d.counts d.lists

  head_of_day : good ≡ head_judged (bytes_of d)
  head_of_day =
      let least : 11 ≤ length (bytes_of d) = rw size (omega arith) in
      head-good (bytes_of d) least refl (length_back d.counts d.lists ∙ ap (λ (n : ℕ). n - 4) (sym size)) (version-back d.counts d.lists) refl refl
      (ap file_counts_in_range same-counts ∙ k.counts-keep) refl (ap (λ (c : FileCounts). (places_of 5 c).end) same-counts ∙ sym size)

  body_of-day : body_judged d ≡ good
  unfolding body_judged
  body_of-day = rw (k.optional-keep, k.levels-keep, k.preferences-keep, k.rows-keep)

  pub file_of_day : file_judged (bytes_of d) ≡ good
  file_of_day =
      sym (file_body (bytes_of d) head_of_day refl refl refl) ∙ ap body_judged (day-back d long) ∙ body_of-day

-- what is written reads back as the same day
pub reads_back : (d : FileDay) → is_day d ≡ true → (pools : Parts) → pools_full pools ≡ true → read_of (bytes_of d) pools ≡ outcome (done d.counts) (padded d.lists)
reads_back d h pools f =
    let k = day-says d h in
    let l = lengths d.counts d.lists k.lengths-keep in
    sym
    (read-good (bytes_of d) pools refl f refl (file_of_day d k) (sym (counts-back d.counts d.lists))
    (ap padded (sym (lists_back d.counts d.lists l))))

-- no two days have one file
pub one-file : (d e : FileDay) → is_day d ≡ true → is_day e ≡ true → bytes_of d ≡ bytes_of e → d ≡ e
one-file d e hd he same =
    sym (day-back d (lengths d.counts d.lists (day-says d hd).lengths-keep))
    ∙ ap day_in same
    ∙ day-back e (lengths e.counts e.lists (day-says e he).lengths-keep)

-- a good file has a good body
pub good_body : (file : List ℕ) → file_judged file ≡ good → body_judged (day_in file) ≡ good
unfolding file_judged
good_body file g = (then_done (head_judged file) (body_judged (day_in file)) g).1

-- what a good file reads as is a day
module _ (file : List ℕ) (bytes : Bytes file) (g : file_judged file ≡ good) where
  head : Head file
  head = good-head file g

  words_fit : (n at step : ℕ) → all_at_most 65535 (list_below n (λ i. word_at file (at + step * i))) ≡ true
  words_fit n at step =
      at-most-list n (λ i. word_at file (at + step * i)) 65535
      ∙ each_all n (λ i. leb (word_at file (at + step * i)) 65535) (λ i h. le-leb (word_at file (at + step * i)) 65535 (omega (arith, word-under file bytes (at + step * i))))

  lengths_read : file_lengths_fit (counts_in file) (lists_in file (counts_in file)) ≡ true
  unfolding file_lengths_fit lists_in
  lengths_read =
      simp (length-list)
      (rw (
        eq-eqb (counts_in file).choices (counts_in file).choices refl,
        eq-eqb (counts_in file).levels (counts_in file).levels refl,
        eq-eqb ((counts_in file).choosers * (counts_in file).choices) ((counts_in file).choosers * (counts_in file).choices) refl,
        eq-eqb (counts_in file).rows (counts_in file).rows refl,
      ))

  mins-read : all_at_most 65535 (lists_in file (counts_in file)).mins ≡ true
  unfolding lists_in
  mins-read = words_fit (counts_in file).choices 11 5

  maxs-read : all_at_most 65535 (lists_in file (counts_in file)).maxs ≡ true
  unfolding lists_in
  maxs-read = words_fit (counts_in file).choices 13 5

  last-read : leb (last_level (lists_in file (counts_in file)).levels) 65535 ≡ true
  unfolding lists_in
  last-read =
      le-leb (last_level (lists_in file (counts_in file)).levels) 65535
      (rw (last-list (counts_in file).levels (λ i. word_at file ((places_of 5 (counts_in file)).levels + 2 * i)) (in_range (counts_in file) head.counts).some)
      (omega (arith, word-under file bytes ((places_of 5 (counts_in file)).levels + 2 * ((counts_in file).levels - 1)))))

  pub day_of-file : IsDay (day_in file)
  unfolding body_judged
  day_of-file =
      let d = day_in file in
      let optional = unless-done (all_at_most 1 d.lists.optional) _ _ (good_body file g) in
      let levels = unless-done (levels_rise d.lists.levels) _ _ optional.1 in
      let preferences = unless-done (all_at_most (last_level d.lists.levels) d.lists.preferences) _ _ levels.1 in
      record {
        counts-keep = head.counts;
        lengths-keep = lengths_read;
        mins-keep = mins-read;
        maxs-keep = maxs-read;
        optional-keep = optional.0;
        levels-keep = levels.0;
        last-keeps = last-read;
        preferences-keep = preferences.0;
        rows-keep = preferences.1;
      }

  -- a good file writes back as the same bytes
  pub file-back : bytes_of (day_in file) ≡ file
  file-back = bytes_back file bytes head
