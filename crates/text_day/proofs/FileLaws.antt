-- What reading a file answers and makes sure of.
use mathlib.Core.Path.{◌≡◌, refl, sym, ◌∙◌, ap, subst}
use mathlib.Core.Bool.{Bool, true, false, ◌&&◌, cond}
use mathlib.Core.List.{List}
use Prim.Native.Nat.{ℕ, ◌-◌, ◌*◌, ◌≤◌, ◌<◌}
use native.Mathlib.Nat.{mul-le-mul_right}
use native.Mathlib.Omega.{arith}
use borrow.Author.Tests.{le-leb, lt-leb, leb-true}
use lib.Dec.{leb}
use lib.ListN.{length, take, replicate}
use lib.Seq.{take_at}
use Rattle.std.specs.Prelude.{Result, Ok, Err, IsErrAnd}
use Rattle.base_lists.specs.All.{all_at_most}
use Rattle.base_lists.specs.Pool.{pad}
use Rattle.base_lists.proofs.Below.{and_left, and_right}
use Rattle.base_lists.proofs.Flat.{length-list}
use Rattle.day_rows.specs.Check.{counts_in_range}
use Rattle.day_rows.specs.Refusal.{number_of}
use Rattle.day_rows.specs.Told.{done, refused, Verdict, good, refuse, refusal_tells, tells, unless, and_then, Outcome, outcome, judged}
use Rattle.day_rows.specs.declared.check.Takes.TheVariants as takes
use Rattle.day_rows.specs.declared.refusal.Refusal.{Refusal}
use Rattle.day_rows.proofs.CountLaws.{Within, within}
use Rattle.day_rows.proofs.ToldLaws.{done-is, refused-not-done, refused-number, refused_as, unless-done, then_done}
use Rattle.day_rows.specs.Levels.{levels_in_range, levels_rise, last_level}
use Rattle.day_file.specs.FileDay.{Parts, parts, FileDay, row_counts, file_counts_in_range, day_rows_judged, pools_full, padded}
use Rattle.day_file.specs.FileDay.{day as file-day}
use Rattle.day_file.specs.declared.day.FileDay as lent
use Rattle.day_file.specs.File.{counts_in, lists_in, day_in, longest_file}
use Rattle.day_file.specs.Calls.{body_judged, file_judged, read_of}
use Rattle.day_file.specs.declared.counts.FileCounts.{FileCounts}
use Rattle.day_file.proofs.ReadLaws.{good-head}
use Rattle.day_file.proofs.DayLaws.{good_body}
use Rattle.text_day.specs.steps.FileRead.{DayRead, ReadsFile}
use Rattle.text_day.specs.Prepared.{judged_to, reduced_to, prepared_of}
use Rattle.text_day.specs.Prepared as prepared
use Rattle.text_day.specs.Reading.{reading_of, read_out}
use Rattle.text_day.specs.steps.FileGiven.{FileGiven, GivenLevels}

-- a good file holds a day
module _ (file : List ℕ) (is-good : file_judged file ≡ good) where
  abbrev lists : Parts
  lists = lists_in file (counts_in file)

  pub given : FileGiven (row_counts (counts_in file)) lists.mins lists.maxs lists.optional lists.rows
  unfolding file_counts_in_range body_judged day_rows_judged lists_in
  given =
      let counts = counts_in file in
      let range = counts_in_range (row_counts counts) takes.Given in
      let rows = day_rows_judged (day_in file) in
      let preferences = unless (all_at_most (last_level lists.levels) lists.preferences) 4 rows in
      let levels = unless (levels_rise lists.levels) 3 preferences in
      let a = unless-done (all_at_most 1 lists.optional) 13 levels (good_body file is-good) in
      let b = unless-done (levels_rise lists.levels) 3 preferences a.1 in
      let c = unless-done (all_at_most (last_level lists.levels) lists.preferences) 4 rows b.1 in
      record {
        in_range = and_left range (levels_in_range counts.levels) (good-head file is-good).counts;
        mins-fit = length-list _ _;
        maxs-fit = length-list _ _;
        optional-fits = length-list _ _;
        rows_fit = length-list _ _;
        rows-good = c.1;
        flags-fit = a.0;
      }

  pub given-levels : GivenLevels (counts_in file) lists.levels lists.preferences
  unfolding file_counts_in_range body_judged lists_in levels_in_range
  given-levels =
      let counts = counts_in file in
      let range = counts_in_range (row_counts counts) takes.Given in
      let low = leb 1 counts.levels in
      let high = leb counts.levels 64 in
      let rows = day_rows_judged (day_in file) in
      let preferences = unless (all_at_most (last_level lists.levels) lists.preferences) 4 rows in
      let levels = unless (levels_rise lists.levels) 3 preferences in
      let a = unless-done (all_at_most 1 lists.optional) 13 levels (good_body file is-good) in
      let b = unless-done (levels_rise lists.levels) 3 preferences a.1 in
      let c = unless-done (all_at_most (last_level lists.levels) lists.preferences) 4 rows b.1 in
      let l = and_right range (low && high) (good-head file is-good).counts in
      record {
        some = leb-true _ _ (and_left low high l);
        few = leb-true _ _ (and_right low high l);
        levels-fit = length-list _ _;
        preferences-fit = length-list _ _;
        rise = b.0;
        at_most = c.0;
      }

-- the front of a padded pool is what was padded
pub front : (n size : ℕ) (l : List ℕ) {pool : List ℕ} → length l ≡ n → pool ≡ pad size l → take n pool ≡ l
unfolding pad
front n size l e p = ap (take n) p ∙ take_at l (replicate (size - length l) 0) n e

-- what the reader answers, its pools being full
pub record FileRead (file : List ℕ) (counts : FileCounts) (pools : Parts) : Type 0 where
  pub is-good : file_judged file ≡ good
  pub counted : counts ≡ counts_in file
  pub filled : pools ≡ padded (lists_in file (counts_in file))

module _ (file : List ℕ) (pools : Parts) (full : pools_full pools ≡ true) where
  abbrev read_well : Outcome FileCounts Parts
  read_well = outcome (done (counts_in file)) (padded (lists_in file (counts_in file)))

  by-file : read_of file pools ≡ judged (file_judged file) pools read_well
  unfolding read_of
  by-file = rw full

  pub read-filled : {counts : FileCounts} {pools' : Parts} → outcome (done counts) pools' ≡ read_of file pools → FileRead file counts pools'
  read-filled {counts} {pools'} e = go (file_judged file) refl (e ∙ by-file)
    where
      go : (v : Verdict) → file_judged file ≡ v → outcome (done counts) pools' ≡ judged v pools read_well → FileRead file counts pools'
      go (done value) g h =
          record { is-good = g; counted = done-is (ap (λ (o : Outcome FileCounts Parts). o.answer) h); filled = ap (λ (o : Outcome FileCounts Parts). o.buffers) h }
      go (refused number carried) g h = absurd (refused-not-done (sym (ap (λ (o : Outcome FileCounts Parts). o.answer) h)))

  pub read-refused : {number : ℕ} {carried : List ℕ} {pools' : Parts} → outcome (refused number carried) pools' ≡ read_of file pools
      → file_judged file ≡ refused number carried
  read-refused {number} {carried} {pools'} e = go (file_judged file) refl (e ∙ by-file)
    where
      go : (v : Verdict) → file_judged file ≡ v → outcome (refused number carried) pools' ≡ judged v pools read_well → file_judged file ≡ refused number carried
      go (done value) g h = absurd (refused-not-done (ap (λ (o : Outcome FileCounts Parts). o.answer) h))
      go (refused other with_it) g h = g ∙ refused_as (sym (ap (λ (o : Outcome FileCounts Parts). o.answer) h))

-- a refusal isn't ready
pub refused-not-ready : {number : ℕ} → prepared.ready ≡ prepared.refused number → ⊥
refused-not-ready e = let z : ◌≡◌ {A = ℕ} 0 1 = cc in absurd (omega arith)

-- what a file comes to, by its length and its judgement
module _ (file : List ℕ) where
  pub prepared_long : longest_file < length file → prepared.refused 11 ≡ prepared_of file
  unfolding prepared_of
  prepared_long h = rw (lt-leb _ _ h)

  module _ (short : length file ≤ longest_file) where
    pub prepared_refused : {number : ℕ} {carried : List ℕ} → file_judged file ≡ refused number carried → prepared.refused number ≡ prepared_of file
    unfolding prepared_of
    prepared_refused e = rw (le-leb _ _ short, e)

    pub prepared_day : file_judged file ≡ good → reduced_to (row_counts (counts_in file)) (lists_in file (counts_in file)).rows ≡ prepared_of file
    unfolding prepared_of
    prepared_day e = rw (le-leb _ _ short, e)

-- only a good file's day is ready
pub ready-good : (file : List ℕ) → prepared.ready ≡ prepared_of file → file_judged file ≡ good
unfolding prepared_of
ready-good file e = go (leb (length file) longest_file) (file_judged file) refl e
  where
    go : (short : Bool) (v : Verdict) → file_judged file ≡ v
        → prepared.ready ≡ cond short (judged_to v (reduced_to (row_counts (counts_in file)) (lists_in file (counts_in file)).rows)) (prepared.refused 11) → file_judged file ≡ good
    go short (done value) g h = g
    go true (refused number carried) g h = absurd (refused-not-ready h)
    go false (refused number carried) g h = absurd (refused-not-ready h)

-- ---- what reading a file tells, by its length and its judgement

-- a refusal that is passed on by `?`, by what it comes to
pub reads-refused : (file : List ℕ) (answer : Result lent.FileDay Refusal) (why : Refusal) → IsErrAnd answer (λ passed. passed ≡ why) → prepared.refused (number_of why) ≡ prepared_of file → ReadsFile file answer
reads-refused file (Ok day) why h e = absurd h
reads-refused file (Err passed) why h e = ap (λ (w : Refusal). prepared.refused (number_of w)) h ∙ e

-- the same, by what it tells
pub read_passed : (answer : Result lent.FileDay Refusal) (why : Refusal) → IsErrAnd answer (λ passed. passed ≡ why) → tells (read_out answer) ≡ refusal_tells why
read_passed (Ok day) why h = absurd h
read_passed (Err passed) why h = ap (λ (w : Refusal). refusal_tells w) h

module _ (file : List ℕ) where
  pub reading_long : longest_file < length file → refuse 11 ≡ reading_of file
  unfolding reading_of
  reading_long h = rw (lt-leb _ _ h)

  pub reading_refused : length file ≤ longest_file → {number : ℕ} {carried : List ℕ} → file_judged file ≡ refused number carried → refused number carried ≡ reading_of file
  unfolding reading_of
  reading_refused short e = rw (le-leb _ _ short, e)

  pub reading_day : {day : FileDay} → DayRead file day → done day ≡ reading_of file
  unfolding reading_of
  reading_day d = ap done d.is-files ∙ rw (le-leb _ _ d.short, d.is-good)

-- a day that is told is the file's, which has been judged good
pub day-told : (file : List ℕ) {day : FileDay} → done day ≡ reading_of file → DayRead file day
unfolding reading_of
day-told file e =
    let judged-then = and_then (file_judged file) (done (day_in file)) in
    let a = unless-done (leb (length file) longest_file) 11 judged-then (sym e) in
    let b = then_done (file_judged file) (done (day_in file)) a.1 in
    record { short = leb-true _ _ a.0; is-good = b.0; is-files = sym (done-is b.1) }

-- a refusal that is told is what the file comes to
pub refusal-told : (file : List ℕ) {number : ℕ} {carried : List ℕ} → refused number carried ≡ reading_of file → prepared.refused number ≡ prepared_of file
unfolding reading_of prepared_of
refusal-told file {number} {carried} e = go (leb (length file) longest_file) (file_judged file) e
  where
    go : (short : Bool) (v : Verdict) → refused number carried ≡ unless short 11 (and_then v (done (day_in file)))
        → prepared.refused number ≡ cond short (judged_to v (reduced_to (row_counts (counts_in file)) (lists_in file (counts_in file)).rows)) (prepared.refused 11)
    go true (done value) h = absurd (refused-not-done h)
    go true (refused other with_it) h = ap prepared.refused (refused-number h)
    go false v h = ap prepared.refused (refused-number h)

-- the file's day, or the refusal that the file comes to
pub reads-file : (file : List ℕ) (answer : Result lent.FileDay Refusal) → tells (read_out answer) ≡ reading_of file → ReadsFile file answer
reads-file file (Ok day) e = day-told file e
reads-file file (Err why) e = refusal-told file e

module _ (file : List ℕ) {counts : FileCounts} {mins maxs optional levels preferences rows : List ℕ} (f : FileRead file counts (parts mins maxs optional levels preferences rows)) where
  pub day : FileGiven (row_counts (counts_in file)) (lists_in file (counts_in file)).mins (lists_in file (counts_in file)).maxs (lists_in file (counts_in file)).optional (lists_in file (counts_in file)).rows
  day = given file f.is-good

  pub leveled : GivenLevels (counts_in file) (lists_in file (counts_in file)).levels (lists_in file (counts_in file)).preferences
  leveled = given-levels file f.is-good

  range : Within (row_counts (counts_in file)) takes.Given
  range = within (row_counts (counts_in file)) takes.Given day.in_range

  choices_are : counts.choices ≡ (counts_in file).choices
  choices_are = ap (λ (c : FileCounts). c.choices) f.counted

  levels_are : counts.levels ≡ (counts_in file).levels
  levels_are = ap (λ (c : FileCounts). c.levels) f.counted

  preferences_are : counts.choosers * counts.choices ≡ (counts_in file).choosers * (counts_in file).choices
  preferences_are = ap (λ (c : FileCounts). c.choosers * c.choices) f.counted

  rows_are : counts.rows ≡ (counts_in file).rows
  rows_are = ap (λ (c : FileCounts). c.rows) f.counted

  pub few-choices : counts.choices ≤ 64
  few-choices = let h = range.choices in omega (arith, h, choices_are)

  pub few-levels : counts.levels ≤ 64
  few-levels = let h = leveled.few in omega (arith, h, levels_are)

  pub few-preferences : counts.choosers * counts.choices ≤ 12800
  few-preferences =
      let a : (counts_in file).choosers * (counts_in file).choices ≤ 200 * (counts_in file).choices = mul-le-mul_right (counts_in file).choices range.choosers in
      let h = range.choices in
      omega (arith, a, h, preferences_are)

  pub few-rows : counts.rows ≤ 128
  few-rows = let h = range.rows in omega (arith, h, rows_are)

  -- each pool holds its list
  abbrev lists' : Parts
  lists' = lists_in file (counts_in file)

  mins-held : mins ≡ pad 64 lists'.mins
  mins-held = ap (λ (p : Parts). p.mins) f.filled

  maxs-held : maxs ≡ pad 64 lists'.maxs
  maxs-held = ap (λ (p : Parts). p.maxs) f.filled

  optional-held : optional ≡ pad 64 lists'.optional
  optional-held = ap (λ (p : Parts). p.optional) f.filled

  levels-held : levels ≡ pad 64 lists'.levels
  levels-held = ap (λ (p : Parts). p.levels) f.filled

  preferences-held : preferences ≡ pad 12800 lists'.preferences
  preferences-held = ap (λ (p : Parts). p.preferences) f.filled

  rows-held : rows ≡ pad 128 lists'.rows
  rows-held = ap (λ (p : Parts). p.rows) f.filled

  mins-lent : take counts.choices mins ≡ lists'.mins
  mins-lent = front counts.choices 64 lists'.mins (day.mins-fit ∙ sym choices_are) mins-held

  maxs-lent : take counts.choices maxs ≡ lists'.maxs
  maxs-lent = front counts.choices 64 lists'.maxs (day.maxs-fit ∙ sym choices_are) maxs-held

  optional-lent : take counts.choices optional ≡ lists'.optional
  optional-lent = front counts.choices 64 lists'.optional (day.optional-fits ∙ sym choices_are) optional-held

  levels-lent : take counts.levels levels ≡ lists'.levels
  levels-lent = front counts.levels 64 lists'.levels (leveled.levels-fit ∙ sym levels_are) levels-held

  preferences-lent : take (counts.choosers * counts.choices) preferences ≡ lists'.preferences
  preferences-lent = front (counts.choosers * counts.choices) 12800 lists'.preferences (leveled.preferences-fit ∙ sym preferences_are) preferences-held

  rows-lent : take counts.rows rows ≡ lists'.rows
  rows-lent = front counts.rows 128 lists'.rows (day.rows_fit ∙ sym rows_are) rows-held

  -- the day that is lent
  pub day-read : length file ≤ longest_file → DayRead file (file-day counts (parts (take counts.choices mins) (take counts.choices maxs) (take counts.choices optional) (take counts.levels levels) (take (counts.choosers * counts.choices) preferences) (take counts.rows rows)))
  day-read short =
      record {
        short = short;
        is-good = f.is-good;
        is-files =
            rw (mins-lent, maxs-lent, optional-lent, levels-lent, preferences-lent, rows-lent)
            (ap (λ (counts : FileCounts). file-day counts lists') f.counted);
      }

-- a day that is read has made sure of its counts, columns and rows
pub day-given : {file : List ℕ} {day : FileDay} → DayRead file day → FileGiven (row_counts day.counts) day.lists.mins day.lists.maxs day.lists.optional day.lists.rows
day-given {file} d = subst (λ (day : FileDay). FileGiven (row_counts day.counts) day.lists.mins day.lists.maxs day.lists.optional day.lists.rows) (sym d.is-files) (given file d.is-good)
