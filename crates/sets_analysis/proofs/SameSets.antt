-- Two lists of sets, each set of either covered by one of the other: they have one bound, and their levels'
-- lists hold the same sets of choices.
use mathlib.Core.Path.{◌≡◌, refl, sym, ◌∙◌}
use mathlib.Core.Bool.{true, cond}
use mathlib.Core.List.Memᴰ
use mathlib.Core.List.{List, [], ◌∷◌, Memᴰ}
use Prim.Native.Nat.{ℕ, ◌^◌, ◌≤◌, ◌<◌, min}
use native.Mathlib.Omega.{arith}
use borrow.Author.Tests.{le-leb, leb-true}
use Rattle.base_lists.specs.All.{all_of}
use Rattle.base_lists.specs.Keep.{keep, any_of}
use Rattle.base_lists.proofs.Below.{and_both, and_left, and_right}
use Rattle.base_lists.proofs.Keep.{in_map, map_in, kept_in, in_kept}
use Rattle.day_rows.specs.Levels.{last_level}
use Rattle.sets_analysis.specs.SetsDay.{SetsDay}
use Rattle.base_choice_sets.specs.Sets.{size_of, within, same_choices}
use Rattle.sets_analysis.specs.Kept.{CriticalSet, covered_by, kept_sets}
use Rattle.sets_analysis.specs.Bound.{is_above, is_large, lowers, lowered_to, bound_of}
use Rattle.sets_analysis.specs.LevelList.{level_list}
use Rattle.sets_analysis.proofs.Members.{any_member, member_any, all-member, member-all}
use Rattle.base_choice_sets.proofs.SetLaws.{same_test, within_trans, within-size, within_both}
use Rattle.sets_analysis.proofs.SetOrder.{same-both, same-there, same_back}
use Rattle.sets_analysis.proofs.Covering.{CoverIn, CoveredIn, covered_level, covered_within, above, above-level}
use Rattle.sets_analysis.proofs.Origin.{Origin, kept_origin, origin_covered, origin_word}
use Rattle.sets_analysis.proofs.LevelLists.{choices_of, listed_above, listed-within, listed-level, listed_minimal}

-- two lists that say the same: each set of either is covered by one of the other
pub record SameSets (one other : List CriticalSet) : Type 0 where
  pub there : CoveredIn one other
  pub back : CoveredIn other one

-- lists that say the same do so either way round
pub same-sets-turned : (one other : List CriticalSet) → SameSets one other → SameSets other one
same-sets-turned one other same = record { there = same.back; back = same.there }

-- sets that are choosers' sets with room, and that cover each such set, say the same as the kept sets: what
-- another analysis has to show (02, request 08)
pub same_as_kept : (day : SetsDay) (sets : List CriticalSet) → ((set : CriticalSet) → Memᴰ set sets → Origin day set) → ((set : CriticalSet) → Origin day set → CoverIn sets set)
    → SameSets sets (kept_sets day)
same_as_kept day sets from covering =
    record { there = λ set m. covering set (kept_origin day set m); back = λ set m. origin_covered day set (from set m) }

-- ---- the bound

-- a set that covers another is large only if that one is
large_covered : (slots : ℕ) (other set : CriticalSet) → covered_by other set ≡ true → is_large slots other ≡ true → is_large slots set ≡ true
unfolding is_large
large_covered slots other set c h =
    le-leb slots (size_of set.members)
    (omega (arith, leb-true slots (size_of other.members) h, within-size other.members set.members (covered_within other set c)))

-- a level that lowers the bound by one list lowers it by another that says the same
lowers-there : (slots : ℕ) (one other : List CriticalSet) (level : ℕ) → SameSets one other → lowers slots one level ≡ true → lowers slots other level ≡ true
unfolding lowers
lowers-there slots one other level same h =
    and_both (any_of (is_above level) other) (all_of (is_large slots) (keep (is_above level) other))
    (let r = any_member (is_above level) one (and_left (any_of (is_above level) one) (all_of (is_large slots) (keep (is_above level) one)) h) in
    let c = same.back r.0 r.1 in
    member_any (is_above level) other c.listed (reaches c.other r.0 c.covering r.2))
    (member-all (is_large slots) (keep (is_above level) other) (λ set m.
    let k = kept_in (is_above level) other set m in
    let c = same.there set k.0 in
    large_covered slots c.other set c.covering
    (all-member (is_large slots) (keep (is_above level) one) (and_right (any_of (is_above level) one) (all_of (is_large slots) (keep (is_above level) one)) h)
    (in_kept (is_above level) one c.other c.listed (reaches c.other set c.covering k.1)))))
  where
    reaches : (cover set : CriticalSet) → covered_by cover set ≡ true → is_above level set ≡ true → is_above level cover ≡ true
    reaches cover set c t = above level cover (omega (arith, covered_level cover set c, above-level level set t))

-- of two lists that say the same both lower the bound at a level, or neither does
same-lowers : (slots : ℕ) (one other : List CriticalSet) (level : ℕ) → SameSets one other → lowers slots one level ≡ lowers slots other level
same-lowers slots one other level same =
    same_test (lowers slots one level) (lowers slots other level) (lowers-there slots one other level same)
    (lowers-there slots other one level (same-sets-turned one other same))

-- lists that say the same lower a bound to the same, level after level
same_lowered : (slots : ℕ) (one other : List CriticalSet) → SameSets one other → (bound : ℕ) (levels : List ℕ) → lowered_to slots one bound levels ≡ lowered_to slots other bound levels
unfolding lowered_to
same_lowered slots one other same bound [] = refl
same_lowered slots one other same bound (level ∷ levels) = rw (same-lowers slots one other level same) (same_lowered slots one other same (cond (lowers slots other level) (min bound level) bound) levels)

-- the same sets have one bound
pub same-bound : (day : SetsDay) (one other : List CriticalSet) → SameSets one other → bound_of day one ≡ bound_of day other
unfolding bound_of
same-bound day one other same = same_lowered day.counts.slots one other same (last_level day.levels) day.levels

-- ---- levels' lists

-- the same sets have the same levels' lists, as sets of choices: what is listed of one is listed of the other
pub same-listed : (levels : List ℕ) (one other : List CriticalSet) → SameSets one other → (limit : ℕ) (set : CriticalSet) → Memᴰ set (level_list levels one limit)
    → (found : CriticalSet) × Memᴰ found (level_list levels other limit) × (same_choices found.members set.members ≡ true)
same-listed levels one other same limit set m =
    let here = listed_above levels one limit set m in
    let cover = same.back set here.0 in
    let high : limit ≤ cover.other.level = omega (arith, here.1, covered_level cover.other set cover.covering) in
    let found = listed-within levels other limit (listed-level levels one limit set m) cover.other cover.listed high in
    let inside : within found.other.members set.members ≡ true =
    within_trans found.other.members cover.other.members set.members found.inner (covered_within cover.other set cover.covering) in
    let there = listed_above levels other limit found.other found.listed in
    let again = same.there found.other there.0 in
    let over : limit ≤ again.other.level = omega (arith, there.1, covered_level again.other found.other again.covering) in
    let within-found : within again.other.members found.other.members ≡ true = covered_within again.other found.other again.covering in
    let whole : same_choices again.other.members set.members ≡ true =
    listed_minimal levels one limit set m again.other again.listed over
    (within_trans again.other.members found.other.members set.members within-found inside) in (
      found.other,
      found.listed,
      same-both found.other.members set.members inside
          (within_trans set.members again.other.members found.other.members (same_back again.other.members set.members whole) within-found),
    )

-- every set of a list is one word
abbrev pub Words : List CriticalSet → Type 0
Words sets = (set : CriticalSet) → Memᴰ set sets → set.members < 2 ^ 64

-- every kept set is one word
pub kept_words : (day : SetsDay) → day.counts.choices ≤ 64 → Words (kept_sets day)
kept_words day few set m = origin_word day set few (kept_origin day set m)

-- the same sets of words: each number listed of one is listed of the other
pub same_numbers : (levels : List ℕ) (one other : List CriticalSet) → SameSets one other → Words one → Words other → (limit number : ℕ)
    → Memᴰ number (choices_of (level_list levels one limit)) → Memᴰ number (choices_of (level_list levels other limit))
same_numbers levels one other same words others limit number m =
    let r = in_map (λ (s : CriticalSet). s.members) (level_list levels one limit) number m in
    let f = same-listed levels one other same limit r.0 r.1 in
    let e : f.0.members ≡ r.0.members =
    within_both f.0.members r.0.members (others f.0 (listed_above levels other limit f.0 f.1).0) (words r.0 (listed_above levels one limit r.0 r.1).0)
    (same-there f.0.members r.0.members f.2) (same_back f.0.members r.0.members f.2) in
    Memᴰ.cast (r.2 ∙ sym e) (map_in (λ (s : CriticalSet). s.members) (level_list levels other limit) f.0 f.1)

-- 'the bound is equal and each level's list holds the same sets' (02, request 08)
pub record Alike (day : SetsDay) (one other : List CriticalSet) : Type 0 where
  pub bounds : bound_of day one ≡ bound_of day other
  pub there : (limit number : ℕ) → Memᴰ number (choices_of (level_list day.levels one limit)) → Memᴰ number (choices_of (level_list day.levels other limit))
  pub back : (limit number : ℕ) → Memᴰ number (choices_of (level_list day.levels other limit)) → Memᴰ number (choices_of (level_list day.levels one limit))

-- the same sets of words are alike
pub same_alike : (day : SetsDay) (one other : List CriticalSet) → SameSets one other → Words one → Words other → Alike day one other
same_alike day one other same words others =
    record {
      bounds = same-bound day one other same;
      there = same_numbers day.levels one other same words others;
      back = same_numbers day.levels other one (same-sets-turned one other same) others words;
    }

-- sets that are choosers' sets with room, and that cover each such set, are like the kept sets
pub alike-kept : (day : SetsDay) (sets : List CriticalSet) → day.counts.choices ≤ 64
    → ((set : CriticalSet) → Memᴰ set sets → Origin day set) → ((set : CriticalSet) → Origin day set → CoverIn sets set) → Alike day sets (kept_sets day)
alike-kept day sets few from covering =
    same_alike day sets (kept_sets day) (same_as_kept day sets from covering) (λ set m. origin_word day set few (from set m)) (kept_words day few)
