-- Reading a file: a law for each way through its functions.
use mathlib.Core.Path.{◌≡◌, sym, ◌∙◌, ap}
use mathlib.Core.Bool.{Bool, true, false}
use mathlib.Core.List.{List}
use Prim.Native.Nat.{ℕ, ◌+◌, ◌*◌, ◌-◌, ◌≤◌, ◌<◌}
use borrow.Author.Tests.{le-leb, lt-leb, eq-eqb, ne_eqb, leb-true, eqb-true}
use lib.Dec.{leb, eqb}
use lib.ListN.{length, get_or}
use Rattle.base_lists.specs.All.{all_at_most}
use Rattle.base_lists.specs.Below.{all_below}
use Rattle.base_lists.specs.Flat.{list_below}
use Rattle.base_lists.specs.Pool.{pad}
use Rattle.day_rows.specs.Check.{rows_judged}
use Rattle.day_rows.specs.declared.check.Counts.{Counts}
use Rattle.day_rows.specs.declared.check.Takes.TheVariants as takes
use Rattle.day_rows.specs.Told.{done, refused, Verdict, good, refuse, outcome}
use Rattle.day_rows.proofs.ToldLaws.{unless-done, then_done}
use Rattle.day_rows.specs.Levels.{levels_rise, last_level}
use Rattle.day_file.specs.FileDay.{Parts, parts, day, row_counts, file_counts_in_range, day_rows_judged, pools_full, padded}
use Rattle.day_file.specs.File.{word_at, row_at, places_of, length_in, version_in, counts_in, lists_in, day_in}
use Rattle.day_file.specs.steps.Columns.{column}
use Rattle.day_file.specs.Calls.{head_judged, body_judged, file_judged, read_of}
use Rattle.day_file.specs.declared.counts.FileCounts.{FileCounts}
use Rattle.day_file.specs.declared.counts.Places.{Places}
use Rattle.day_file.proofs.CountLaws.{Within, last-place, Full, full}
use Rattle.day_file.proofs.JudgeLaws.{rising, under, at-most-list, rise-list, last-list}

-- the ways through a file's head: 11, 12, 1, 11
module _ (file : List ℕ) where
  pub head-short : length file < 11 → refuse 11 ≡ head_judged file
  unfolding head_judged
  head-short h = rw (lt-leb _ _ h)

  module _ (long : 11 ≤ length file) {said : ℕ} (s : said ≡ length_in file) where
    pub head-length : (said ≡ length file - 4 → ⊥) → refuse 11 ≡ head_judged file
    unfolding head_judged
    head-length n = rw (le-leb _ _ long, ne_eqb (length_in file) (length file - 4) (λ e. n (s ∙ e)))

    module _ (l : said ≡ length file - 4) where
      lengths : length_in file ≡ length file - 4
      lengths = sym s ∙ l

      pub head-version : (version_in file ≡ 1 → ⊥) → refuse 12 ≡ head_judged file
      unfolding head_judged
      head-version n = rw (le-leb _ _ long, eq-eqb _ _ lengths, ne_eqb _ _ n)

      module _ (v : version_in file ≡ 1) {counts : FileCounts} (c : counts ≡ counts_in file) {b : Bool} (t : b ≡ file_counts_in_range counts) where
        keeps : file_counts_in_range (counts_in file) ≡ b
        keeps = sym (ap file_counts_in_range c) ∙ sym t

        pub head-counts : b ≡ false → refuse 1 ≡ head_judged file
        unfolding head_judged
        head-counts h = rw (le-leb _ _ long, eq-eqb _ _ lengths, eq-eqb _ _ v, keeps ∙ h)

        module _ (h : b ≡ true) {places : Places} (p : places ≡ places_of 5 counts) where
          ends : places.end ≡ (places_of 5 (counts_in file)).end
          ends = ap (λ (q : Places). q.end) p ∙ ap (λ (d : FileCounts). (places_of 5 d).end) c

          pub head_body : (places.end ≡ length file → ⊥) → refuse 11 ≡ head_judged file
          unfolding head_judged
          head_body n = rw (le-leb _ _ long, eq-eqb _ _ lengths, eq-eqb _ _ v, keeps ∙ h, ne_eqb (places_of 5 (counts_in file)).end (length file) (λ e. n (ends ∙ e)))

          pub head-good : places.end ≡ length file → good ≡ head_judged file
          unfolding head_judged
          head-good e = rw (le-leb _ _ long, eq-eqb _ _ lengths, eq-eqb _ _ v, keeps ∙ h, eq-eqb _ _ (sym ends ∙ e))

-- what a good head says of its file
pub record Head (file : List ℕ) : Type 0 where
  pub long : 11 ≤ length file
  pub length-in : length_in file ≡ length file - 4
  pub version : version_in file ≡ 1
  pub counts : file_counts_in_range (counts_in file) ≡ true
  pub end : (places_of 5 (counts_in file)).end ≡ length file

pub head-says : (file : List ℕ) → head_judged file ≡ good → Head file
unfolding head_judged
head-says file g =
    let long = unless-done (leb 11 (length file)) _ _ g in
    let said = unless-done (eqb (length_in file) (length file - 4)) _ _ long.1 in
    let version = unless-done (eqb (version_in file) 1) _ _ said.1 in
    let counts = unless-done (file_counts_in_range (counts_in file)) _ _ version.1 in
    let end = unless-done (eqb (places_of 5 (counts_in file)).end (length file)) _ _ counts.1 in
    record {
      long = leb-true _ _ long.0;
      length-in = eqb-true _ _ said.0;
      version = eqb-true _ _ version.0;
      counts = counts.0;
      end = eqb-true _ _ end.0;
    }

-- the ways through a file's body: 13, 3, 4, 5, each test on the file's bytes
module _ (file : List ℕ) (counts : FileCounts) {places : Places} (p : places ≡ places_of 5 counts) where
  module _ {o : Bool} (ot : o ≡ all_below counts.choices (λ i. leb (get_or file (15 + 5 * i) 0) 1)) where
    optional-is : all_at_most 1 (lists_in file counts).optional ≡ o
    unfolding lists_in
    optional-is = at-most-list counts.choices (λ i. get_or file (15 + 5 * i) 0) 1 ∙ sym ot

    pub body_optional : o ≡ false → refuse 13 ≡ body_judged (day counts (lists_in file counts))
    unfolding body_judged
    body_optional h = rw (optional-is ∙ h)

    module _ (oh : o ≡ true) {l : Bool} (lt : l ≡ all_below (counts.levels - 1) (rising file (column places.levels 2 counts.levels))) where
      levels-is : levels_rise (lists_in file counts).levels ≡ l
      unfolding lists_in
      levels-is =
          rise-list counts.levels (λ i. word_at file ((places_of 5 counts).levels + 2 * i))
          ∙ sym (ap (λ (q : Places). all_below (counts.levels - 1) (rising file (column q.levels 2 counts.levels))) p)
          ∙ sym lt

      pub body_levels : l ≡ false → refuse 3 ≡ body_judged (day counts (lists_in file counts))
      unfolding body_judged
      body_levels h = rw (optional-is ∙ oh, levels-is ∙ h)

      module _ (lh : l ≡ true) (w : Within counts places (length file)) {last : ℕ} (e : last ≡ word_at file (places.preferences - 2))
          {f : Bool} (ft : f ≡ all_below (counts.choosers * counts.choices) (under file (column places.preferences 2 (counts.choosers * counts.choices)) last)) where
        last-is : last_level (lists_in file counts).levels ≡ last
        unfolding lists_in
        last-is =
            last-list counts.levels (λ i. word_at file ((places_of 5 counts).levels + 2 * i)) w.range.some
            ∙ sym (ap (λ (q : Places). word_at file (q.levels + 2 * (counts.levels - 1))) p)
            ∙ sym (ap (word_at file) (last-place w))
            ∙ sym e

        preferences-is : all_at_most (last_level (lists_in file counts).levels) (lists_in file counts).preferences ≡ f
        unfolding lists_in
        preferences-is =
            ap (λ (n : ℕ). all_at_most n (lists_in file counts).preferences) last-is
            ∙ at-most-list (counts.choosers * counts.choices) (λ i. word_at file ((places_of 5 counts).preferences + 2 * i)) last
            ∙ sym (ap (λ (q : Places). all_below (counts.choosers * counts.choices) (under file (column q.preferences 2 (counts.choosers * counts.choices)) last)) p)
            ∙ sym ft

        pub body_preference : f ≡ false → refuse 4 ≡ body_judged (day counts (lists_in file counts))
        unfolding body_judged
        body_preference h = rw (optional-is ∙ oh, levels-is ∙ lh, preferences-is ∙ h)

        pub body_rows : f ≡ true → {asked : Counts} → asked ≡ row_counts counts → {answer : Verdict}
            → answer ≡ rows_judged asked takes.Given (list_below counts.rows (λ i. row_at file (places.rows + 6 * i)))
            → answer ≡ body_judged (day counts (lists_in file counts))
        unfolding body_judged day_rows_judged lists_in
        body_rows h {asked} a r =
            rw (optional-is ∙ oh, levels-is ∙ lh, preferences-is ∙ h)
            (r
            ∙ ap (λ (c : Counts). rows_judged c takes.Given (list_below counts.rows (λ i. row_at file (places.rows + 6 * i)))) a
            ∙ ap (λ (q : Places). rows_judged (row_counts counts) takes.Given (list_below counts.rows (λ i. row_at file (q.rows + 6 * i)))) p)

-- the whole file judged: the head, then the body
module _ (file : List ℕ) {head : Verdict} (t : head ≡ head_judged file) where
  pub file-refused : {number : ℕ} {carried : List ℕ} → head ≡ refused number carried → refused number carried ≡ file_judged file
  unfolding file_judged
  file-refused e = rw (sym t ∙ e)

  pub file-head : head ≡ good → Head file
  file-head e = head-says file (sym t ∙ e)

  pub file_body : head ≡ good → {counts : FileCounts} → counts ≡ counts_in file → {body : Verdict} → body ≡ body_judged (day counts (lists_in file counts)) → body ≡ file_judged file
  unfolding file_judged
  file_body e c b = rw (sym t ∙ e) (b ∙ ap (λ (d : FileCounts). body_judged (day d (lists_in file d))) c)

-- a good file has a good head
pub good-head : (file : List ℕ) → file_judged file ≡ good → Head file
unfolding file_judged
good-head file g = head-says file (then_done (head_judged file) (body_judged (day_in file)) g).0

-- the counts that were read, with what their head says
module _ (file : List ℕ) (h : Head file) {counts : FileCounts} (c : counts ≡ counts_in file) where
  pub counts-keep : file_counts_in_range counts ≡ true
  counts-keep = ap file_counts_in_range c ∙ h.counts

  pub counts_end : (places_of 5 counts).end ≡ length file
  counts_end = ap (λ (d : FileCounts). (places_of 5 d).end) c ∙ h.end

-- the six pools, filled one by one, are the file's lists padded
pub filled : (file : List ℕ) (counts : FileCounts) {places : Places} → places ≡ places_of 5 counts
    → {a b c d e f : ℕ} → Full a b c d e f
    → {mins maxs optional levels preferences rows : List ℕ}
    → mins ≡ pad a (list_below counts.choices (λ k. word_at file (11 + 5 * k)))
    → maxs ≡ pad b (list_below counts.choices (λ k. word_at file (13 + 5 * k)))
    → optional ≡ pad c (list_below counts.choices (λ k. get_or file (15 + 5 * k) 0))
    → levels ≡ pad d (list_below counts.levels (λ k. word_at file (places.levels + 2 * k)))
    → preferences ≡ pad e (list_below (counts.choosers * counts.choices) (λ k. word_at file (places.preferences + 2 * k)))
    → rows ≡ pad f (list_below counts.rows (λ k. row_at file (places.rows + 6 * k)))
    → parts mins maxs optional levels preferences rows ≡ padded (lists_in file counts)
unfolding lists_in
filled file counts {places} p full m x o l q r =
    rw (
      m ∙ ap (λ (n : ℕ). pad n (list_below counts.choices (λ k. word_at file (11 + 5 * k)))) full.mins-full,
      x ∙ ap (λ (n : ℕ). pad n (list_below counts.choices (λ k. word_at file (13 + 5 * k)))) full.maxs-full,
      o ∙ ap (λ (n : ℕ). pad n (list_below counts.choices (λ k. get_or file (15 + 5 * k) 0))) full.optional-full,
      l ∙ ap (λ (n : ℕ). pad n (list_below counts.levels (λ k. word_at file (places.levels + 2 * k)))) full.levels-full
          ∙ ap (λ (z : Places). pad 64 (list_below counts.levels (λ k. word_at file (z.levels + 2 * k)))) p,
      q ∙ ap (λ (n : ℕ). pad n (list_below (counts.choosers * counts.choices) (λ k. word_at file (places.preferences + 2 * k)))) full.preferences-full
          ∙ ap (λ (z : Places). pad 12800 (list_below (counts.choosers * counts.choices) (λ k. word_at file (z.preferences + 2 * k)))) p,
      r ∙ ap (λ (n : ℕ). pad n (list_below counts.rows (λ k. row_at file (places.rows + 6 * k)))) full.rows-full
          ∙ ap (λ (z : Places). pad 128 (list_below counts.rows (λ k. row_at file (z.rows + 6 * k)))) p,
    )

-- the ways through `read_day`
module _ (file : List ℕ) (pools : Parts) {b : Bool} (t : b ≡ pools_full pools) where
  pub read_short : b ≡ false → outcome (refuse 2) pools ≡ read_of file pools
  unfolding read_of
  read_short h = rw (sym t ∙ h)

  module _ (h : b ≡ true) {judged : Verdict} (j : judged ≡ file_judged file) where
    pub read-refused : {number : ℕ} {carried : List ℕ} → judged ≡ refused number carried → outcome (refused number carried) pools ≡ read_of file pools
    unfolding read_of
    read-refused e = rw (sym t ∙ h, sym j ∙ e)

    pub read_head : judged ≡ good → Head file
    read_head e = good-head file (sym j ∙ e)

    pub read-good : judged ≡ good → {counts : FileCounts} → counts ≡ counts_in file → {lists : Parts} → lists ≡ padded (lists_in file counts)
        → outcome (done counts) lists ≡ read_of file pools
    unfolding read_of
    read-good e {counts} c {lists} l =
        rw (sym t ∙ h, sym j ∙ e)
        (ap (λ (z : Parts). outcome (done counts) z) l ∙ ap (λ (d : FileCounts). outcome (done d) (padded (lists_in file d))) c)
