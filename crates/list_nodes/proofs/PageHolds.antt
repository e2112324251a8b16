-- What a walk by safe eyes ends in, under any budget, is a page that may be given.
use mathlib.Core.Path.{◌≡◌, refl, sym, ap, ap₂, ◌∙◌}
use mathlib.Core.Bool.{Bool, true, false}
use mathlib.Core.List.{List, [], ◌∷◌, flatten}
use mathlib.Core.Logic.{◌⊎◌, inl, inr, ⊎_elim}
use Prim.Native.Nat.{ℕ, zero, suc, ◌+◌, ◌-◌, ◌≤◌, ◌<◌, min}
use native.Mathlib.Nat.{zero-add, sub-zero}
use native.Mathlib.Omega.{arith}
use borrow.Author.Tests.{leb-true, leb-false}
use lib.Dec.{leb}
use lib.ListN.{length, take, drop, length-take}
use lib.Seq.{sets, take_all, take-take, take-nil}
use Rattle.plan_check.specs.Day.{Day}
use Rattle.list_nodes.specs.Placements.{plans, page, total, nodes}
use Rattle.list_nodes.specs.steps.Walk.{put_plans}
use Rattle.list_nodes.proofs.PageLaws.{Sized, none, more, put-page, page-length}
use Rattle.list_nodes.proofs.Members.{sized-plans}
use Rattle.list_nodes.specs.steps.Alive.{Eyes, events, Safe}
use Rattle.list_nodes.specs.steps.Run.{Standing, standing, goes_on, run}
use Rattle.list_nodes.specs.Page.{ended_told, goes_on_told, turns_told, page_put, Gives, ended, goes_on as told_on, out}
use Rattle.list_nodes.proofs.AnyEyes.{any_eyes}
use Rattle.list_nodes.proofs.Visits.{visits-few}
use Rattle.list_nodes.proofs.RunLaws.{goes_true, goes_first, Ran, ran}

-- ---- the page of a list's front

sized-take : (size k : ℕ) (l : List (List ℕ)) → Sized size l → Sized size (take k l)
sized-take size zero l s = none
sized-take size (suc k) [] s = none
sized-take size (suc k) (p ∷ l) (more e s) = more e (sized-take size k l s)

drop-take {ℓ} : {A : Type ℓ} (f k : ℕ) (l : List A) → drop f (take k l) ≡ take (k - f) (drop f l)
drop-take zero k l = rw (sub-zero k)
drop-take (suc f) zero l =
    let z : 0 - suc f ≡ 0 = omega arith in
    rw z
drop-take (suc f) (suc k) [] = sym (take-nil (suc k - suc f))
drop-take (suc f) (suc k) (x ∷ l) =
    let z : suc k - suc f ≡ k - f = omega arith in
    rw z (drop-take f k l)

-- the first so many of the first so many are the first as many as the fewer of the two
take_min {ℓ} : {A : Type ℓ} (a b : ℕ) (l : List A) → take a (take b l) ≡ take (min a b) (take a l)
take_min a b l = go (leb a b) refl
  where
    go : (t : Bool) → leb a b ≡ t → take a (take b l) ≡ take (min a b) (take a l)
    go true t =
        let h : a ≤ b = leb-true a b t in
        let m : min a b ≡ a = omega arith in
        take-take a b l h ∙ sym (rw m (take-take a a l (omega arith)))
    go false t =
        let h : b < a = leb-false a b t in
        let m : min a b ≡ b = omega arith in
        take_all a (take b l) (rw length-take (omega arith)) ∙ sym (rw m (take-take b a l (omega arith)))

-- a page of a list's first k is the front of the list's page
page-cut {ℓ} : {A : Type ℓ} (first room k : ℕ) (l : List A) → take room (drop first (take k l)) ≡ take (min room (k - first)) (take room (drop first l))
page-cut first room k l = ap (take room) (drop-take first k l) ∙ take_min room (k - first) (drop first l)

module _ (day : Day) (first room budget : ℕ) (buffer : List ℕ) where
  -- the buffer with the first k plans, put one after another
  put_first : (k : ℕ) → put_plans first room buffer 0 (take k (plans day)) ≡ page_put day first room budget buffer (min room (k - first))
  unfolding page_put page
  put_first k =
      put-page first room day.counts.choices (take k (plans day)) buffer 0 first (sized-take day.counts.choices k (plans day) (sized-plans day)) (zero-add first)
      ∙ ap (λ (l : List (List ℕ)). sets buffer 0 (flatten l)) (page-cut first room k (plans day))

  -- the three ways in which a page is given, by equations
  give_ended : {written all : ℕ} {buffer' : List ℕ} → written ≡ min room (all - first) → all ≡ total day → buffer' ≡ page_put day first room budget buffer written
      → (room ≡ 0) ⊎ (total day ≤ first + room) → Gives day first room budget buffer (ended_told written all) buffer'
  unfolding page total
  give_ended w a b c =
      let l = w ∙ ap (λ (k : ℕ). min room (k - first)) a ∙ sym (page-length first room (plans day)) in
      rw (b, a, l) (ended c)

  give_goes_on : {written met : ℕ} {buffer' : List ℕ} → written ≡ min room (met - first) → met ≡ first + room + 1 → buffer' ≡ page_put day first room budget buffer written
      → 0 < room → met ≤ total day → Gives day first room budget buffer (goes_on_told written met) buffer'
  give_goes_on {written} w m b c t =
      let l : written ≡ room = omega arith in
      rw (b, m, l) (told_on c (omega arith))

  give_out : {met : ℕ} {buffer' : List ℕ} → buffer' ≡ page_put day first room budget buffer (min room (met - first)) → budget < nodes day → met ≤ total day
      → (room ≡ 0) ⊎ (met ≤ first + room) → Gives day first room budget buffer (turns_told (min room (met - first)) met) buffer'
  give_out {met} b n t c = rw b (out met n t c)

-- ---- the walk

module _ (day : Day) {X : Type 0} (eyes : Eyes X) {Holds : List ℕ → X → Type 0} (safe : Safe day eyes Holds) (x : X) (h : Holds [] x)
    (first room budget : ℕ) (buffer : List ℕ) (s : Standing) (e : s ≡ run first room (standing true budget 0 buffer) (events day eyes day.counts.choices [] x)) where
  walked : Ran first room budget 0 buffer (events day eyes day.counts.choices [] x) s
  walked = rw e (ran first room (events day eyes day.counts.choices [] x) budget 0 buffer (goes_first first room))

  met-is : s.met ≡ walked.found
  met-is = walked.number ∙ zero-add walked.found

  met-few : s.met ≤ total day
  unfolding total
  met-few = rw (met-is, sym (any_eyes day eyes safe x h)) walked.few

  buffer-is : s.buffer ≡ page_put day first room budget buffer (min room (s.met - first))
  buffer-is =
      walked.written
      ∙ ap₂ (λ (k : ℕ) (l : List (List ℕ)). put_plans first room buffer 0 (take k l)) (sym met-is) (any_eyes day eyes safe x h)
      ∙ put_first day first room budget buffer s.met

  module _ (g : s.going ≡ true) where
    met_all : s.met ≡ total day
    unfolding total
    met_all = met-is ∙ (walked.on g).0 ∙ ap length (any_eyes day eyes safe x h)

    -- the walk came to its end
    pub walk_ends : Gives day first room budget buffer (ended_told (min room (s.met - first)) s.met) s.buffer
    walk_ends =
        give_ended day first room budget buffer refl met_all buffer-is
        (⊎_elim inl (λ l. inr (omega (arith, met_all, l))) (goes_true first room s.met (walked.on g).2))

  -- the walk met the plan after the page
  pub walk_goes_on : s.going ≡ false → goes_on first room s.met ≡ false → Gives day first room budget buffer (goes_on_told (min room (s.met - first)) s.met) s.buffer
  walk_goes_on g f = give_goes_on day first room budget buffer refl (walked.over g f).1 buffer-is (walked.over g f).0 met-few

  -- the walk's turns ran out
  pub walk-out : s.going ≡ false → goes_on first room s.met ≡ true → Gives day first room budget buffer (turns_told (min room (s.met - first)) s.met) s.buffer
  walk-out g t =
      give_out day first room budget buffer buffer-is (omega (arith, walked.out g t, visits-few day eyes safe x h)) met-few (goes_true first room s.met t)

  -- the three ends of a walk together
  pub page-holds : (s.going ≡ true → Gives day first room budget buffer (ended_told (min room (s.met - first)) s.met) s.buffer)
      × (s.going ≡ false → goes_on first room s.met ≡ false → Gives day first room budget buffer (goes_on_told (min room (s.met - first)) s.met) s.buffer)
      × (s.going ≡ false → goes_on first room s.met ≡ true → Gives day first room budget buffer (turns_told (min room (s.met - first)) s.met) s.buffer)
  page-holds = (walk_ends, walk_goes_on, walk-out)
