-- A level's list, of any list of sets: it holds exactly the inclusion-minimal sets of that level or above, as
-- sets of choices, by size.
use mathlib.Core.Path.{◌≡◌, refl, sym, ◌∙◌, ap}
use mathlib.Core.Bool.{Bool, true, false, ◌&&◌, cond, false≢true}
use mathlib.Core.List.Sublistᴰ
use mathlib.Core.List.{List, [], ◌∷◌, ◌++◌, map, Memᴰ, Sublistᴰ}
use mathlib.Core.Logic.{⊎_elim}
use Prim.Native.Nat.{ℕ, ◌≤◌, ◌<◌}
use native.Mathlib.Omega.{arith}
use borrow.Author.Tests.{eq-eqb, eqb-true}
use lib.Dec.{eqb}
use lib.ListN.{length, get_or}
use Rattle.base_lists.specs.Keep.{keep, any_of}
use Rattle.base_lists.proofs.Below.{and_both, and_left, and_right}
use Rattle.base_lists.proofs.Keep.{kept_in, in_kept}
use Rattle.base_lists.proofs.Members.{member_if}
use Rattle.base_choice_sets.specs.Sets.{size_of, within, same_choices}
use Rattle.sets_analysis.specs.Kept.{CriticalSet, no_set}
use Rattle.sets_analysis.specs.Bound.{is_above}
use Rattle.sets_analysis.specs.LevelList.{by_size, minimal_from, level_list}
use Rattle.sets_analysis.proofs.Members.{any_member, none-member, refuted, in_join, join_in}
use Rattle.sets_analysis.proofs.Pairwise.{Pairwise, Distinct, pairwise_at, pairwise_cases, pairwise_all, pairwise_join, pairwise_if, pairwise_both, pairwise_sub, sub-member, sub_join, sub-keep, keep-sub}
use Rattle.sets_analysis.proofs.Picked.{picked, picked-sub, picked_or, picked_pairwise}
use Rattle.base_choice_sets.proofs.SetLaws.{within_refl, within_trans, size_le}
use Rattle.sets_analysis.proofs.SetOrder.{same_size, same-both}
use Rattle.sets_analysis.proofs.Covering.{above, above-level}

-- the limit is one of the levels
abbrev pub is_level : List ℕ → ℕ → Bool
is_level levels limit = any_of (eqb limit) levels

-- the choices of each of a list of sets: what a search tests
abbrev pub choices_of : List CriticalSet → List ℕ
choices_of sets = map (λ set. set.members) sets

-- a listed set is within this one
abbrev pub listed_within : List CriticalSet → CriticalSet → Bool
listed_within listed set = any_of (λ other. within other.members set.members) listed

-- the set is no larger than the later one
abbrev pub Growing : CriticalSet → CriticalSet → Type 0
Growing set later = size_of set.members ≤ size_of later.members

-- the set is not within the later one
abbrev pub Outside : CriticalSet → CriticalSet → Type 0
Outside set later = within set.members later.members ≡ false

-- a set of a list that is within this one
pub record InnerIn (others : List CriticalSet) (set : CriticalSet) : Type 0 where
  pub other : CriticalSet
  pub listed : Memᴰ other others
  pub inner : within other.members set.members ≡ true

-- ---- by size

module _ (sets : List CriticalSet) (limit : ℕ) where
  -- the set is of that level or above, and of one size
  abbrev of_size : ℕ → CriticalSet → Bool
  of_size size set = is_above limit set && eqb (size_of set.members) size

  -- what is kept for one size is one of the sets, of that level or above, and of that size
  in_size : (size : ℕ) {set : CriticalSet} → Memᴰ set (keep (of_size size) sets) → Memᴰ set sets × (limit ≤ set.level) × (size_of set.members ≡ size)
  in_size size {set} m =
      let k = kept_in (of_size size) sets set m in (
        k.0,
        above-level limit set (and_left (is_above limit set) (eqb (size_of set.members) size) k.1),
        eqb-true (size_of set.members) size (and_right (is_above limit set) (eqb (size_of set.members) size) k.1),
      )

  -- what stands by size is one of the sets, of that level or above
  pub in_by_size : {set : CriticalSet} → Memᴰ set (by_size limit sets) → Memᴰ set sets × (limit ≤ set.level)
  unfolding by_size
  in_by_size m =
      let r = in_join 65 (λ size. keep (of_size size) sets) m in
      let k = in_size r.0 r.2 in
      (k.0, k.1)

  -- each of the sets of that level or above stands by size
  pub by-size_in : (set : CriticalSet) → Memᴰ set sets → limit ≤ set.level → Memᴰ set (by_size limit sets)
  unfolding by_size
  by-size_in set m h =
      let small : size_of set.members < 65 = omega (arith, size_le set.members) in
      join_in 65 (λ size. keep (of_size size) sets) (size_of set.members) small
      (in_kept (of_size (size_of set.members)) sets set m
      (and_both (is_above limit set) (eqb (size_of set.members) (size_of set.members)) (above limit set h) (eq-eqb (size_of set.members) (size_of set.members) refl)))

  -- sizes don't fall along the sets by size
  by-size-grows : Pairwise Growing (by_size limit sets)
  unfolding by_size
  by-size-grows =
      pairwise_join Growing 65 (λ size. keep (of_size size) sets)
      (λ i h. pairwise_all Growing (keep (of_size i) sets)
      (λ x y m k. omega (arith, (in_size i m).2, (in_size i k).2)))
      (λ i j x y h l m k. omega (arith, (in_size i m).2, (in_size j k).2))

  -- sets that stand once in the list stand once by size
  pub by-size-once : Pairwise Distinct sets → Pairwise Distinct (by_size limit sets)
  unfolding by_size
  by-size-once w =
      pairwise_join Distinct 65 (λ size. keep (of_size size) sets) (λ i h. pairwise_sub Distinct (sub-keep (of_size i) sets) w)
      (λ i j x y h l m k e.
      let same : size_of x.members ≡ size_of y.members = ap (λ (s : CriticalSet). size_of s.members) e in
      omega (arith, (in_size i m).2, (in_size j k).2))

-- sets left out are left out by size
pub by-size-sub : (limit : ℕ) {some sets : List CriticalSet} → Sublistᴰ some sets → Sublistᴰ (by_size limit some) (by_size limit sets)
unfolding by_size
by-size-sub limit {some} {sets} s =
    sub_join 65 (λ size. keep (λ (set : CriticalSet). is_above limit set && eqb (size_of set.members) size) some)
    (λ size. keep (λ (set : CriticalSet). is_above limit set && eqb (size_of set.members) size) sets)
    (λ size. keep-sub (λ (set : CriticalSet). is_above limit set && eqb (size_of set.members) size) s)

-- ---- what is listed

-- what is listed is picked from the sets, unless a listed one is within it
pub minimal_picked : (listed sets : List CriticalSet) → minimal_from listed sets ≡ picked listed_within listed sets
unfolding minimal_from picked
minimal_picked listed [] = refl
minimal_picked listed (set ∷ sets) = minimal_picked (cond (listed_within listed set) listed (listed ++ (set ∷ []))) sets

-- a level's list is picked from the sets by size; for a limit that is no level there is none
pub level-list-picked : (levels : List ℕ) (sets : List CriticalSet) (limit : ℕ) → level_list levels sets limit ≡ cond (is_level levels limit) (picked listed_within [] (by_size limit sets)) []
unfolding level_list
level-list-picked levels sets limit = ap (λ (l : List CriticalSet). cond (is_level levels limit) l []) (minimal_picked [] (by_size limit sets))

-- 'a limit that is no level has none'
pub no_level_none : (levels : List ℕ) (sets : List CriticalSet) (limit : ℕ) → is_level levels limit ≡ false → level_list levels sets limit ≡ []
unfolding level_list
no_level_none levels sets limit h = rw h

module _ (levels : List ℕ) (sets : List CriticalSet) (limit : ℕ) where
  -- a level's list leaves out some of the sets by size
  pub level-list-sub : Sublistᴰ (level_list levels sets limit) (by_size limit sets)
  level-list-sub = rw (level-list-picked levels sets limit) (go (is_level levels limit))
    where
      go : (b : Bool) → Sublistᴰ (cond b (picked listed_within [] (by_size limit sets)) []) (by_size limit sets)
      go true = picked-sub listed_within [] (by_size limit sets)
      go false = Sublistᴰ.nil-sublist (by_size limit sets)

  -- sizes don't fall along a level's list
  list-grows : Pairwise Growing (level_list levels sets limit)
  list-grows = pairwise_sub Growing level-list-sub (by-size-grows sets limit)

  -- no set of a level's list is within a later one
  list-outside : Pairwise Outside (level_list levels sets limit)
  unfolding Pairwise
  list-outside =
      rw (level-list-picked levels sets limit)
      (pairwise_if Outside (is_level levels limit) (picked listed_within [] (by_size limit sets))
      (picked_pairwise listed_within Outside
      (λ listed set h other m. none-member (λ (o : CriticalSet). within o.members set.members) listed h m) [] (by_size limit sets) _))

  -- every listed set is one of the sets, of that level or above
  pub listed_above : (set : CriticalSet) → Memᴰ set (level_list levels sets limit) → Memᴰ set sets × (limit ≤ set.level)
  listed_above set m = in_by_size sets limit (sub-member level-list-sub m)

  -- every set of that level or above has a listed one within it
  pub listed-within : is_level levels limit ≡ true → (set : CriticalSet) → Memᴰ set sets → limit ≤ set.level → InnerIn (level_list levels sets limit) set
  listed-within level set m h =
      rw (level-list-picked levels sets limit, level)
      (⊎_elim (λ k. record { other = set; listed = k; inner = within_refl set.members })
      (λ k.
      let r = any_member (λ (o : CriticalSet). within o.members set.members) k.0 k.1 in
      record { other = r.0; listed = k.2 r.0 r.1; inner = r.2 })
      (picked_or listed_within [] (by_size limit sets) (by-size_in sets limit set m h)))

  -- a limit with a listed set is a level
  pub listed-level : (set : CriticalSet) → Memᴰ set (level_list levels sets limit) → is_level levels limit ≡ true
  listed-level set m = (member_if (is_level levels limit) (picked listed_within [] (by_size limit sets)) (rw (level-list-picked levels sets limit) at m)).0

  -- a listed set within another listed set is that set
  pub listed-within-listed : (one other : CriticalSet) → Memᴰ one (level_list levels sets limit) → Memᴰ other (level_list levels sets limit)
      → within one.members other.members ≡ true → one ≡ other
  listed-within-listed one other m k w =
      ⊎_elim (λ e. e)
      (λ r. absurd (⊎_elim (λ h. false≢true (sym h.0 ∙ w))
      (λ h. false≢true (sym h.0 ∙ same_size one.members other.members w h.1)) r))
      (pairwise_cases (λ set later. Outside set later × Growing set later) (level_list levels sets limit)
      (pairwise_both Outside Growing (level_list levels sets limit) list-outside list-grows) m k)

  -- no other set of that level or above is within a listed one
  pub listed_minimal : (set : CriticalSet) → Memᴰ set (level_list levels sets limit) → (other : CriticalSet) → Memᴰ other sets → limit ≤ other.level
      → within other.members set.members ≡ true → same_choices other.members set.members ≡ true
  listed_minimal set m other k h w =
      let r = listed-within (listed-level set m) other k h in
      let e : r.other ≡ set = listed-within-listed r.other set r.listed m (within_trans r.other.members other.members set.members r.inner w) in
      same-both other.members set.members w (rw e at r.inner)

  -- a set of that level or above with no other such set within it is listed, as a set of choices
  pub minimal_listed : is_level levels limit ≡ true → (set : CriticalSet) → Memᴰ set sets → limit ≤ set.level
      → ((other : CriticalSet) → Memᴰ other sets → limit ≤ other.level → within other.members set.members ≡ true → same_choices other.members set.members ≡ true)
      → (listed : CriticalSet) × Memᴰ listed (level_list levels sets limit) × (same_choices listed.members set.members ≡ true)
  minimal_listed level set m h least =
      let r = listed-within level set m h in
      let k = listed_above r.other r.listed in
      (r.other, r.listed, least r.other k.0 k.1 r.inner)

  -- a level's list goes 'by size'
  pub listed-by-size : (i j : ℕ) → i < j → j < length (level_list levels sets limit)
      → size_of (get_or (level_list levels sets limit) i no_set).members ≤ size_of (get_or (level_list levels sets limit) j no_set).members
  listed-by-size = pairwise_at Growing (level_list levels sets limit) no_set list-grows

  -- no listed set is within another, by their places
  pub listed-apart : (i j : ℕ) → i < j → j < length (level_list levels sets limit)
      → (within (get_or (level_list levels sets limit) i no_set).members (get_or (level_list levels sets limit) j no_set).members ≡ false)
      × (within (get_or (level_list levels sets limit) j no_set).members (get_or (level_list levels sets limit) i no_set).members ≡ false)
  listed-apart i j h k =
      let out = pairwise_at Outside (level_list levels sets limit) no_set list-outside i j h k in
      let grows = listed-by-size i j h k in
      (out, refuted _ (λ w. false≢true (sym out ∙ same_size _ _ w grows)))
