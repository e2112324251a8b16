-- Writing a file: a law for each way through its functions.
use mathlib.Core.Path.{◌≡◌, sym, ◌∙◌, ap}
use mathlib.Core.Bool.{Bool, true, false}
use mathlib.Core.List.{List, [], ◌∷◌, ◌++◌}
use Prim.Native.Nat.{ℕ, suc, ◌+◌, ◌*◌, ◌-◌, ◌/◌, ◌%◌, ◌≤◌, ◌<◌}
use native.Mathlib.Numerals.{add-one}
use native.Mathlib.Omega.{arith}
use borrow.Author.Tests.{eq-eqb, ne_eqb, eqb-true}
use lib.Dec.{eqb}
use lib.ListN.{length, get_or, set, replicate}
use lib.Seq.{sets}
use Rattle.base_lists.specs.All.{all_at_most}
use Rattle.base_lists.specs.Flat.{join_below}
use Rattle.base_lists.specs.Pool.{pad}
use Rattle.base_lists.proofs.Stores.{sets-append, sets-zeros}
use Rattle.day_rows.specs.Row.{row_of}
use Rattle.day_rows.specs.Check.{rows_judged}
use Rattle.day_rows.specs.declared.row.Row.{Row}
use Rattle.day_rows.specs.declared.check.Counts.{Counts}
use Rattle.day_rows.specs.declared.check.Takes.TheVariants as takes
use Rattle.day_rows.specs.Told.{done, refused, Verdict, good, refuse, outcome}
use Rattle.day_rows.proofs.ToldLaws.{unless-done, then_done}
use Rattle.day_rows.specs.Levels.{levels_rise, last_level}
use Rattle.day_file.specs.FileDay.{Parts, FileDay, day, row_counts, file_counts_in_range, file_lengths_fit, day_rows_judged}
use Rattle.day_file.specs.File.{word, sign_bit_flipped, row_bytes, head_bytes, choice_bytes, bytes_of, places_of, longest_file}
use Rattle.day_file.specs.declared.counts.FileCounts.{FileCounts}
use Rattle.day_rows.proofs.KeptLaws.{good-each}
use Rattle.day_rows.proofs.RowBytes.{keeps-kind, keeps-left}
use Rattle.day_file.proofs.CountLaws.{InRange, in_range}
use Rattle.day_file.proofs.FileLaws.{Lengths, length-head, length-choices, length_words, length-bytes, end-most}
use Rattle.day_write.specs.steps.Held.{BytesHold}
use Rattle.day_write.specs.Calls.{lists_judged, day_judged, write_of}

-- records of two, five and six bytes, put one part after the other
pub word-put : (pool : List ℕ) (at v : ℕ) → set (set pool at (v / 256)) (at + 1) (v % 256) ≡ sets pool at (word v)
unfolding word
word-put pool at v = rw add-one

pub choice-put : (pool : List ℕ) (at min max optional : ℕ) {a b : List ℕ} → a ≡ sets pool at (word min) → b ≡ sets a (at + 2) (word max)
    → set b (at + 4) optional ≡ sets pool at (word min ++ (word max ++ (optional ∷ [])))
unfolding word
choice-put pool at min max optional p q =
    let two : at + 2 ≡ suc (suc at) = omega arith in
    let four : at + 4 ≡ suc (suc (suc (suc at))) = omega arith in
    rw (q, p, two, four)

pub row_put : (pool : List ℕ) (at number : ℕ) {row : Row} {extra : ℕ} {a b : List ℕ} → row ≡ row_of number → extra ≡ sign_bit_flipped row.extra
    → a ≡ sets (set (set pool at row.kind) (at + 1) row.left) (at + 2) (word row.right) → b ≡ sets a (at + 4) (word extra)
    → b ≡ sets pool at (row_bytes number)
unfolding row_bytes word
row_put pool at number {row} {extra} r x p q =
    let one : at + 1 ≡ suc at = omega arith in
    let two : at + 2 ≡ suc (suc at) = omega arith in
    let four : at + 4 ≡ suc (suc (suc (suc at))) = omega arith in
    rw (q, p, x, one, two, four)
    (ap (λ (z : Row). sets pool at (z.kind ∷ z.left ∷ (word z.right ++ word (sign_bit_flipped z.extra)))) r)

-- the choice that was put is the list's
pub choice-is : (pool : List ℕ) (at : ℕ) (mins maxs optional : List ℕ) (i : ℕ) {new : List ℕ}
    → new ≡ sets pool at (word (get_or mins i 0) ++ (word (get_or maxs i 0) ++ (get_or optional i 0 ∷ []))) → new ≡ sets pool at (choice_bytes mins maxs optional i)
unfolding choice_bytes
choice-is pool at mins maxs optional i e = e

-- the head is put: the length of the rest, then version and counts
pub length-put : (pool : List ℕ) (rest : ℕ) {a b : List ℕ} → a ≡ sets pool 0 (word (rest / 65536)) → b ≡ sets a 2 (word (rest % 65536))
    → b ≡ sets pool 0 (word (rest / 65536) ++ word (rest % 65536))
unfolding word
length-put pool rest p q = rw (q, p)

pub head-put : (pool : List ℕ) (counts : FileCounts) {rest : ℕ} {a b : List ℕ} → rest ≡ (places_of 5 counts).end - 4
    → a ≡ sets pool 0 (word (rest / 65536) ++ word (rest % 65536))
    → b ≡ sets a 4 (1 ∷ counts.choices ∷ counts.slots ∷ counts.choosers ∷ counts.levels ∷ word counts.rows)
    → b ≡ sets pool 0 (head_bytes 1 counts)
unfolding head_bytes word
head-put pool counts e p q = rw (q, p, e)

pub rest-fits : {counts : FileCounts} {rest : ℕ} → InRange counts → rest ≡ (places_of 5 counts).end - 4 → rest < 65536 * 65536
rest-fits r e = omega (arith, end-most r)

-- the five parts, one after the other, in a pool of zeros
module _ (counts : FileCounts) (lists : Parts) (k : Lengths counts lists) (r : InRange counts) where
  -- each part of the file has room in the pool
  pub choices-room : {pool : ℕ} → pool ≡ longest_file
      → (counts.choices ≤ length lists.mins) × ((counts.choices ≤ length lists.maxs) × ((counts.choices ≤ length lists.optional) × (11 + 5 * counts.choices ≤ pool)))
  choices-room e = (omega (arith, k.mins-long), (omega (arith, k.maxs-long), (omega (arith, k.optional-long), omega (arith, end-most r))))

  pub levels-room : {pool at : ℕ} → pool ≡ longest_file → at ≡ 11 + 5 * counts.choices → at + 2 * length lists.levels ≤ pool
  levels-room e a = omega (arith, end-most r, k.levels-long)

  pub preferences-room : {pool at next : ℕ} → pool ≡ longest_file → at ≡ 11 + 5 * counts.choices → next ≡ at + 2 * length lists.levels → next + 2 * length lists.preferences ≤ pool
  preferences-room e a n = omega (arith, end-most r, k.levels-long, k.preferences-long)

  pub rows-room : {pool at next last : ℕ} → pool ≡ longest_file → at ≡ 11 + 5 * counts.choices → next ≡ at + 2 * length lists.levels → last ≡ next + 2 * length lists.preferences
      → last + 6 * length lists.rows ≤ pool
  rows-room e a n m = omega (arith, end-most r, k.levels-long, k.preferences-long, k.rows_long)

  pub parts-put : (zeros : List ℕ) {a b c d e : List ℕ} {levels preferences rows end : ℕ} → zeros ≡ replicate longest_file 0
      → a ≡ sets zeros 0 (head_bytes 1 counts)
      → levels ≡ 11 + 5 * counts.choices
      → b ≡ sets a 11 (join_below counts.choices (choice_bytes lists.mins lists.maxs lists.optional))
      → preferences ≡ levels + 2 * length lists.levels
      → c ≡ sets b levels (join_below (length lists.levels) (λ i. word (get_or lists.levels i 0)))
      → rows ≡ preferences + 2 * length lists.preferences
      → d ≡ sets c preferences (join_below (length lists.preferences) (λ i. word (get_or lists.preferences i 0)))
      → end ≡ rows + 6 * length lists.rows
      → e ≡ sets d rows (join_below (length lists.rows) (λ i. row_bytes (get_or lists.rows i 0)))
      → outcome (done end) e ≡ outcome (done (length (bytes_of (day counts lists)))) (pad longest_file (bytes_of (day counts lists)))
  unfolding bytes_of
  parts-put zeros {a} {b} {c} {d} {e} {levels} {preferences} {rows} {end} z p1 n1 p2 n2 p3 n3 p4 n4 p5 =
      let choices = join_below counts.choices (choice_bytes lists.mins lists.maxs lists.optional) in
      let ls = join_below (length lists.levels) (λ i. word (get_or lists.levels i 0)) in
      let ps = join_below (length lists.preferences) (λ i. word (get_or lists.preferences i 0)) in
      let rs = join_below (length lists.rows) (λ i. row_bytes (get_or lists.rows i 0)) in
      let m1 : 0 + length (head_bytes 1 counts) ≡ 11 = rw (length-head 1 counts) in
      let m2 : 11 + length choices ≡ levels = rw (length-choices lists.mins lists.maxs lists.optional counts.choices) (sym n1) in
      let m3 : levels + length ls ≡ preferences = rw (length_words lists.levels (length lists.levels)) (sym n2) in
      let m4 : preferences + length ps ≡ rows = rw (length_words lists.preferences (length lists.preferences)) (sym n3) in
      let whole : e ≡ sets zeros 0 (head_bytes 1 counts ++ (choices ++ (ls ++ (ps ++ rs)))) =
      p5
      ∙ sym
      (sets-append zeros 0 (head_bytes 1 counts) (choices ++ (ls ++ (ps ++ rs)))
      ∙ rw (m1, sym p1)
      (sets-append a 11 choices (ls ++ (ps ++ rs))
      ∙ rw (m2, sym p2) (sets-append b levels ls (ps ++ rs) ∙ rw (m3, sym p3) (sets-append c preferences ps rs ∙ rw (m4, sym p4)))))
      in
      let size : length (bytes_of (day counts lists)) ≡ (places_of 5 counts).end = length-bytes counts lists k in
      let there : end ≡ length (bytes_of (day counts lists)) = omega (arith, k.levels-long, k.preferences-long, k.rows_long) in
      let room : length (bytes_of (day counts lists)) ≤ longest_file = omega (arith, end-most r) in
      ap (λ (n : ℕ). outcome (done n) e) there
      ∙ ap (λ (l : List ℕ). outcome (done (length (bytes_of (day counts lists)))) l)
      (whole ∙ ap (λ (l : List ℕ). sets l 0 (bytes_of (day counts lists))) z ∙ sets-zeros longest_file (bytes_of (day counts lists)) room)

-- the ways through a day's lists: 3, 4, 5, 13
module _ (d : FileDay) {l : Bool} (lt : l ≡ levels_rise d.lists.levels) where
  pub lists-levels : l ≡ false → refuse 3 ≡ lists_judged d
  unfolding lists_judged
  lists-levels h = rw (sym lt ∙ h)

  module _ (lh : l ≡ true) {p : Bool} (pt : p ≡ all_at_most (last_level d.lists.levels) d.lists.preferences) where
    pub lists_preference : p ≡ false → refuse 4 ≡ lists_judged d
    unfolding lists_judged
    lists_preference h = rw (sym lt ∙ lh, sym pt ∙ h)

    module _ (ph : p ≡ true) {judged : Verdict} (j : judged ≡ day_rows_judged d) where
      pub lists-rows : {number : ℕ} {carried : List ℕ} → judged ≡ refused number carried → refused number carried ≡ lists_judged d
      unfolding lists_judged
      lists-rows e = rw (sym lt ∙ lh, sym pt ∙ ph, sym j ∙ e)

      module _ (e : judged ≡ good) {o : Bool} (ot : o ≡ all_at_most 1 d.lists.optional) where
        pub lists-optional : o ≡ false → refuse 13 ≡ lists_judged d
        unfolding lists_judged
        lists-optional h = rw (sym lt ∙ lh, sym pt ∙ ph, sym j ∙ e, sym ot ∙ h)

        pub lists-good : o ≡ true → good ≡ lists_judged d
        unfolding lists_judged
        lists-good h = rw (sym lt ∙ lh, sym pt ∙ ph, sym j ∙ e, sym ot ∙ h)

-- the test of preferences against the last level, and the rows' verdict, as `judge_lists` reads them
pub last-level : (levels preferences : List ℕ) {last : ℕ} {b : Bool} → last ≡ last_level levels → b ≡ all_at_most last preferences
    → b ≡ all_at_most (last_level levels) preferences
last-level levels preferences e t = rw (sym e) t

pub rows-judged : (d : FileDay) {asked : Counts} {judged : Verdict} → asked ≡ row_counts d.counts → judged ≡ rows_judged asked takes.Given d.lists.rows → judged ≡ day_rows_judged d
unfolding day_rows_judged
rows-judged d a j = j ∙ ap (λ (c : Counts). rows_judged c takes.Given d.lists.rows) a

-- the ways through a day's tests: 1, 2, then the lists
module _ (d : FileDay) (room : ℕ) {b : Bool} (t : b ≡ file_counts_in_range d.counts) where
  pub day-count : b ≡ false → refuse 1 ≡ day_judged d room
  unfolding day_judged
  day-count h = rw (sym t ∙ h)

  module _ (h : b ≡ true) {l : Bool} (lt : l ≡ file_lengths_fit d.counts d.lists) where
    pub day-lengths : l ≡ false → refuse 2 ≡ day_judged d room
    unfolding day_judged
    day-lengths e = rw (sym t ∙ h, sym lt ∙ e)

    module _ (lh : l ≡ true) where
      pub day-room : (room ≡ longest_file → ⊥) → refuse 2 ≡ day_judged d room
      unfolding day_judged
      day-room n = rw (sym t ∙ h, sym lt ∙ lh, ne_eqb _ _ n)

      pub day-lists : room ≡ longest_file → {judged : Verdict} → judged ≡ lists_judged d → judged ≡ day_judged d room
      unfolding day_judged
      day-lists e j = rw (sym t ∙ h, sym lt ∙ lh, eq-eqb _ _ e) j

-- what a day that was judged good says
pub record DayGood (d : FileDay) (room : ℕ) : Type 0 where
  pub counts-good : file_counts_in_range d.counts ≡ true
  pub lengths-good : file_lengths_fit d.counts d.lists ≡ true
  pub room-good : room ≡ longest_file
  pub lists_are_good : lists_judged d ≡ good

pub day-good : (d : FileDay) (room : ℕ) → day_judged d room ≡ good → DayGood d room
unfolding day_judged
day-good d room g =
    let counts = unless-done (file_counts_in_range d.counts) _ _ g in
    let lists = unless-done (file_lengths_fit d.counts d.lists) _ _ counts.1 in
    let fits = unless-done (eqb room longest_file) _ _ lists.1 in
    record { counts-good = counts.0; lengths-good = lists.0; room-good = eqb-true _ _ fits.0; lists_are_good = fits.1 }

pub rows-good : (d : FileDay) → lists_judged d ≡ good → day_rows_judged d ≡ good
unfolding lists_judged
rows-good d g =
    let levels = unless-done (levels_rise d.lists.levels) _ _ g in
    let preferences = unless-done (all_at_most (last_level d.lists.levels) d.lists.preferences) _ _ levels.1 in
    (then_done (day_rows_judged d) _ preferences.1).0

-- rows of a good day fit their bytes
pub rows_fit : (d : FileDay) → file_counts_in_range d.counts ≡ true → day_rows_judged d ≡ good → (i : ℕ) → i < length d.lists.rows → BytesHold (get_or d.lists.rows i 0)
unfolding day_rows_judged
rows_fit d k g i h =
    let r = in_range d.counts k in
    let t = good-each (row_counts d.counts) takes.Given d.lists.rows g i h in
    let number = get_or d.lists.rows i 0 in (
      omega (arith, keeps-kind (row_counts d.counts) number t),
      keeps-left (row_counts d.counts) number t 256 (omega arith) (omega arith) (omega arith),
    )

-- the ways through `write_day`
module _ (d : FileDay) (pool : List ℕ) {judged : Verdict} (j : judged ≡ day_judged d (length pool)) where
  pub write_refused : {number : ℕ} {carried : List ℕ} → judged ≡ refused number carried → outcome (refused number carried) pool ≡ write_of d pool
  unfolding write_of
  write_refused e = rw (sym j ∙ e)

  pub write_asks : judged ≡ good → DayGood d (length pool)
  write_asks e = day-good d (length pool) (sym j ∙ e)

  pub write_good : judged ≡ good → {n : ℕ} {bytes : List ℕ} → outcome (done n) bytes ≡ outcome (done (length (bytes_of d))) (pad longest_file (bytes_of d))
      → outcome (done n) bytes ≡ write_of d pool
  unfolding write_of
  write_good e w = rw (sym j ∙ e) w
