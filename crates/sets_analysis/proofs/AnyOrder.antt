-- The search's test of critical sets asks only which sets there are: order and repeats don't matter, nor do
-- sets that have another one within them.
use mathlib.Core.Path.{◌≡◌, sym, ◌∙◌, ap}
use mathlib.Core.Bool.{true, ◌&&◌, not, false≢true}
use mathlib.Core.List.{List, Memᴰ}
use Prim.Native.Nat.{ℕ, ◌≤◌}
use native.Mathlib.Omega.{arith}
use borrow.Author.Tests.{lt-ltb, ltb-true, not-true}
use lib.ListN.{length, get_or}
use Rattle.base_lists.specs.Below.{all_below}
use Rattle.base_lists.specs.Keep.{keep}
use Rattle.base_lists.proofs.Below.{and_both, and_left, and_right, all-each, each_all}
use Rattle.base_lists.proofs.Keep.{in_map, map_in, kept_in, in_kept}
use Rattle.base_choice_sets.specs.Sets.{has, within, meets}
use Rattle.base_choice_sets.specs.Reach.{covered_slots, undecided_members, reach_of, stuck, some_stuck}
use Rattle.sets_analysis.specs.Kept.{CriticalSet}
use Rattle.sets_analysis.specs.Bound.{is_above}
use Rattle.sets_analysis.specs.LevelList.{level_list}
use Rattle.sets_analysis.proofs.Members.{refuted, any_member, member_any}
use Rattle.base_choice_sets.proofs.SetLaws.{same_test, within_has, within_refl, count_mono}
use Rattle.sets_analysis.proofs.SetOrder.{same-there}
use Rattle.sets_analysis.proofs.Covering.{above, above-level}
use Rattle.sets_analysis.proofs.LevelLists.{choices_of, InnerIn, is_level, listed_above, listed-within}
use Rattle.sets_analysis.proofs.SameSets.{SameSets, same-sets-turned, same-listed}

-- ---- one set

-- where a set meets the choices of a slot, a larger set does
meets-grows : (slot inner outer : ℕ) → within inner outer ≡ true → meets slot inner ≡ true → meets slot outer ≡ true
unfolding meets
meets-grows slot inner outer w h =
    ap not (refuted (all_below 64 λ choice. not (has slot choice && has outer choice)) (λ t.
    false≢true
    (sym (not-true (all_below 64 λ choice. not (has slot choice && has inner choice)) h)
    ∙ each_all 64 (λ choice. not (has slot choice && has inner choice)) (λ choice k.
    ap not (refuted (has slot choice && has inner choice) (λ b.
    false≢true
    (sym (not-true (has slot choice && has outer choice) (all-each 64 (λ c. not (has slot c && has outer c)) t choice k))
    ∙ and_both (has slot choice) (has outer choice) (and_left (has slot choice) (has inner choice) b)
    (within_has inner outer w choice k (and_right (has slot choice) (has inner choice) b)))))))))

-- a larger set reaches no fewer slots
pub reach_grows : (slots : List ℕ) (undecided inner outer : ℕ) → within inner outer ≡ true → reach_of slots undecided inner ≤ reach_of slots undecided outer
unfolding reach_of covered_slots undecided_members
reach_grows slots undecided inner outer w =
    omega (
      arith,
      count_mono (length slots) (λ slot. meets (get_or slots slot 0) inner) (λ slot. meets (get_or slots slot 0) outer) (λ slot k h. meets-grows (get_or slots slot 0) inner outer w h),
      count_mono 64 (λ choice. has inner choice && has undecided choice) (λ choice. has outer choice && has undecided choice) (λ choice k h.
          and_both (has outer choice) (has undecided choice) (within_has inner outer w choice k (and_left (has inner choice) (has undecided choice) h))
          (and_right (has inner choice) (has undecided choice) h)),
    )

-- a set within one that is stuck is stuck
pub stuck-inner : (slots : List ℕ) (undecided inner outer : ℕ) → within inner outer ≡ true → stuck slots undecided outer ≡ true → stuck slots undecided inner ≡ true
unfolding stuck
stuck-inner slots undecided inner outer w h =
    lt-ltb (reach_of slots undecided inner) (length slots)
    (omega (arith, reach_grows slots undecided inner outer w, ltb-true (reach_of slots undecided outer) (length slots) h))

-- ---- lists of sets

-- each set of a list has one of another list within it
abbrev pub InnerOf : List ℕ → List ℕ → Type 0
InnerOf others sets = (set : ℕ) → Memᴰ set sets → (other : ℕ) × Memᴰ other others × (within other set ≡ true)

-- where each critical set of a list has one of another list within it, so have their choices
pub inner-choices : (others sets : List CriticalSet) → ((set : CriticalSet) → Memᴰ set sets → InnerIn others set) → InnerOf (choices_of others) (choices_of sets)
inner-choices others sets inner set m =
    let r = in_map (λ (s : CriticalSet). s.members) sets set m in
    let k = inner r.0 r.1 in
    (k.other.members, map_in (λ (s : CriticalSet). s.members) others k.other k.listed, ap (within k.other.members) r.2 ∙ k.inner)

module _ (slots : List ℕ) (undecided : ℕ) where
  -- where each set of a list has one of another within it, one that is stuck makes one of the other stuck
  stuck_there : (others sets : List ℕ) → InnerOf others sets → some_stuck slots undecided sets ≡ true → some_stuck slots undecided others ≡ true
  unfolding some_stuck
  stuck_there others sets inner h =
      let r = any_member (stuck slots undecided) sets h in
      let k = inner r.0 r.1 in
      member_any (stuck slots undecided) others k.1 (stuck-inner slots undecided k.0 r.0 k.2 r.2)

  -- two lists of which each set has one of the other within it give one answer
  pub inner_test : (one other : List ℕ) → InnerOf one other → InnerOf other one → some_stuck slots undecided one ≡ some_stuck slots undecided other
  inner_test one other there back =
      same_test (some_stuck slots undecided one) (some_stuck slots undecided other) (stuck_there other one back) (stuck_there one other there)

  -- two lists with the same sets, in any order, give one answer
  pub any_order : (one other : List ℕ) → ((set : ℕ) → Memᴰ set one → Memᴰ set other) → ((set : ℕ) → Memᴰ set other → Memᴰ set one)
      → some_stuck slots undecided one ≡ some_stuck slots undecided other
  any_order one other there back = inner_test one other (λ set m. (set, back set m, within_refl set)) (λ set m. (set, there set m, within_refl set))

  -- a level's list gives the answer of all sets of that level or above
  pub level-list_test : (levels : List ℕ) (sets : List CriticalSet) (limit : ℕ) → is_level levels limit ≡ true
      → some_stuck slots undecided (choices_of (level_list levels sets limit)) ≡ some_stuck slots undecided (choices_of (keep (is_above limit) sets))
  level-list_test levels sets limit level =
      inner_test (choices_of (level_list levels sets limit)) (choices_of (keep (is_above limit) sets))
      (inner-choices (level_list levels sets limit) (keep (is_above limit) sets) (λ set m.
      let k = kept_in (is_above limit) sets set m in
      listed-within levels sets limit level set k.0 (above-level limit set k.1)))
      (inner-choices (keep (is_above limit) sets) (level_list levels sets limit) (λ set m.
      let k = listed_above levels sets limit set m in
      record { other = set; listed = in_kept (is_above limit) sets set k.0 (above limit set k.1); inner = within_refl set.members }))

  -- of two lists that say the same, what is listed of one has a listed set of the other within it
  listed-inner : (levels : List ℕ) (one other : List CriticalSet) (limit : ℕ) → SameSets one other → InnerOf (choices_of (level_list levels other limit)) (choices_of (level_list levels one limit))
  listed-inner levels one other limit same =
      inner-choices (level_list levels other limit) (level_list levels one limit) (λ set m.
      let f = same-listed levels one other same limit set m in
      record { other = f.0; listed = f.1; inner = same-there f.0.members set.members f.2 })

  -- two lists that say the same give one answer at every limit
  pub same-sets_test : (levels : List ℕ) (one other : List CriticalSet) (limit : ℕ) → SameSets one other
      → some_stuck slots undecided (choices_of (level_list levels one limit)) ≡ some_stuck slots undecided (choices_of (level_list levels other limit))
  same-sets_test levels one other limit same =
      inner_test (choices_of (level_list levels one limit)) (choices_of (level_list levels other limit))
      (listed-inner levels other one limit (same-sets-turned one other same)) (listed-inner levels one other limit same)
