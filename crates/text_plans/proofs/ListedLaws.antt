-- What the listing of a judged day may answer, and how long its text may be.
use mathlib.Core.Path.{◌≡◌, refl, sym, ◌∙◌, ap, subst}
use mathlib.Core.Bool.{Bool, true, false}
use mathlib.Core.List.Memᴰ
use mathlib.Core.List.{List, [], ◌∷◌, ◌++◌, map, flatten, append_assoc, Memᴰ}
use mathlib.Core.Logic.{⊎_elim}
use Prim.Native.Nat.{ℕ, zero, suc, ◌+◌, ◌-◌, ◌*◌, ◌≤◌, ◌<◌, ◌^◌, min}
use native.Mathlib.Nat.{mul-le-mul_right, suc-mul, zero-mul}
use native.Mathlib.Omega.{arith}
use borrow.Author.Tests.{leb-true, leb-false}
use lib.Dec.{leb}
use lib.ListN.{length, take, drop, replicate, length-append, length-replicate, length-take, length-drop}
use lib.Seq.{take_at, drop_at, take_all, take-length, sets, sets-eq, length-sets, length-take-le}
use Rattle.base_lists.proofs.Keep.{in_map, in_flat_map, kept_in}
use Rattle.std.specs.Prelude.{Result, Err}
use Rattle.day_rows.specs.Check.{counts_in_range, rows_judged}
use Rattle.day_rows.specs.declared.refusal.Refusal.{Refusal}
use Rattle.day_rows.specs.Told.{Told, done, refused, good, unless, and_then}
use Rattle.day_rows.proofs.ToldLaws.{refused-not-done, unless-done}
use Rattle.day_rows.specs.declared.check.Takes.TheVariants as takes
use Rattle.day_rows.proofs.CountLaws.{within}
use Rattle.plan_check.specs.Day.{Day}
use Rattle.plan_check.specs.Check.{flags_judged}
use Rattle.plan_check.specs.Feasible.{feasible}
use Rattle.list_nodes.specs.Placements.{slots_from, places, placements, plans, page, total}
use Rattle.list_nodes.specs.Judge.{list_lengths_fit, judge_of}
use Rattle.list_nodes.proofs.Members.{placement_length, sized-plans}
use Rattle.list_nodes.proofs.PageLaws.{Sized, none, more, page-length}
use Rattle.list_nodes.specs.Page.{PageTold, ended_told, goes_on_told, turns_told, page_put, Gives, ended, goes_on, out}
use Rattle.list_starts.specs.PageAnswer.{paged_tells}
use Rattle.list_page.specs.Page.{Fits, refuses, gives}
use Rattle.list_starts.specs.declared.page_end.Paged.{Paged}
use Rattle.text_lines.specs.Put.{pool, put_at}
use Rattle.text_lines.specs.PlansLines.{PlansAnswer, page_text, answer_text}
use Rattle.text_lines.specs.PlansLines as answer
use Rattle.text_lines.specs.Pages.{plans_in, put_page}
use Rattle.text_lines.proofs.PageLaws.{page-put}
use Rattle.text_lines.proofs.PlansFitLaws.{Modest, member-drop, member-take}
use Rattle.text_plans.specs.PlansAnswer.{Lists, lists-all, lists-page, lists-some}
use Rattle.text_plans.specs.Calls.{Puts}

-- ---- parts of a list

sized-drop : (size n : ℕ) (l : List (List ℕ)) → Sized size l → Sized size (drop n l)
sized-drop size zero l s = s
sized-drop size (suc n) [] s = s
sized-drop size (suc n) (plan ∷ l) (more e s) = sized-drop size n l s

sized-take : (size n : ℕ) (l : List (List ℕ)) → Sized size l → Sized size (take n l)
sized-take size zero l s = none
sized-take size (suc n) [] s = s
sized-take size (suc n) (plan ∷ l) (more e s) = more e (sized-take size n l s)

-- plans of one length, joined
sized-length : (size : ℕ) (l : List (List ℕ)) → Sized size l → length (flatten l) ≡ length l * size
unfolding flatten
sized-length size [] s = sym (zero-mul size)
sized-length size (plan ∷ l) (more e s) =
    length-append plan (flatten l) ∙ let r = suc-mul (length l) size in omega (arith, e, sized-length size l s, r)

-- the plans that lie at the front of a page are read back
plans-in : (size : ℕ) (plans : List (List ℕ)) (page rest : List ℕ) → Sized size plans → page ≡ flatten plans ++ rest → plans_in (length plans) size page ≡ plans
unfolding plans_in flatten
plans-in size [] page rest s e = refl
plans-in size (plan ∷ plans) page rest (more l s) e =
    let f : page ≡ plan ++ (flatten plans ++ rest) = e ∙ append_assoc plan (flatten plans) rest in
    let d : drop size page ≡ flatten plans ++ rest = ap (drop size) f ∙ drop_at plan (flatten plans ++ rest) size l in
    let t : take size page ≡ plan = ap (take size) f ∙ take_at plan (flatten plans ++ rest) size l in
    rw (t, plans-in size plans (drop size page) rest s d)

-- ---- every place of a listed plan is a byte

slot-under : (n first slot : ℕ) → Memᴰ slot (slots_from first n) → slot < first + n
unfolding slots_from
slot-under zero first slot m = absurd (Memᴰ.not-nil m)
slot-under (suc n) first slot m =
    ⊎_elim (λ e. omega (arith, e)) (λ k. let h = slot-under n (suc first) slot k in omega (arith, h)) (Memᴰ.cases_cons m)

place-under : (slots place : ℕ) → slots ≤ 24 → Memᴰ place (places slots) → place < 256
unfolding places
place-under slots place few m =
    ⊎_elim (λ k. let h = slot-under slots 0 place k in omega (arith, h)) (λ k. let e = Memᴰ.eq_of_singleton k in omega (arith, e)) (Memᴰ.append_cases (slots_from 0 slots) m)

placement_under : (slots n : ℕ) (plan : List ℕ) → slots ≤ 24 → Memᴰ plan (placements slots n) → (place : ℕ) → Memᴰ place plan → place < 256
unfolding placements
placement_under slots zero plan few m place k = absurd (Memᴰ.not-nil (subst (Memᴰ place) (Memᴰ.eq_of_singleton m) k))
placement_under slots (suc n) plan few m place k =
    let r = in_flat_map (λ place. map (λ rest. place ∷ rest) (placements slots n)) (places slots) plan m in
    let q = in_map (λ rest. r.0 ∷ rest) (placements slots n) plan r.2 in
    ⊎_elim (λ e. place-under slots place few (subst (λ p. Memᴰ p (places slots)) (sym e) r.1))
    (λ h. placement_under slots n q.0 few q.1 place h)
    (Memᴰ.cases_cons (subst (Memᴰ place) q.2 k))

-- each plan of a page has at most 64 places, each a byte
page-member : (day : Day) (first room : ℕ) → day.counts.choices ≤ 64 → day.counts.slots ≤ 24 → (plan : List ℕ) → Memᴰ plan (page day first room)
    → (length plan ≤ 64) × ((place : ℕ) → Memᴰ place plan → place < 256)
unfolding page plans
page-member day first room choices slots plan m =
    let k = kept_in (feasible day) (placements day.counts.slots day.counts.choices) plan (member-drop first (plans day) plan (member-take room (drop first (plans day)) plan m)) in (
      let e = placement_length day.counts.slots day.counts.choices plan k.0 in omega (arith, e),
      placement_under day.counts.slots day.counts.choices plan slots k.0,
    )

-- ---- what a page tells, as an answer

-- the plans written
abbrev pub written : PageTold → ℕ
written (ended_told count all) = count
written (goes_on_told count met) = count
written (turns_told count met) = count

-- the number told
abbrev pub number : PageTold → ℕ
number (ended_told count all) = all
number (goes_on_told count met) = met
number (turns_told count met) = met

-- the answer with these plans
abbrev pub answer_with : ℕ → PageTold → List (List ℕ) → PlansAnswer
answer_with first (ended_told count all) plans = answer.ended first all plans
answer_with first (goes_on_told count met) plans = answer.goes_on first met plans
answer_with first (turns_told count met) plans = answer.turns first met plans

-- ---- the page of a day

module _ (day : Day) (first room budget : ℕ) where
  page-few : length (page day first room) ≤ room
  unfolding page
  page-few = omega (arith, length-take room (drop first (plans day)))

  page-sized : Sized day.counts.choices (page day first room)
  unfolding page
  page-sized = sized-take _ room (drop first (plans day)) (sized-drop _ first (plans day) (sized-plans day))

  page-count : length (page day first room) ≡ min room (total day - first)
  unfolding page total
  page-count = page-length first room (plans day)

  -- so many of the page, and at most the room, are so many of it
  page-part : (count : ℕ) → take (min room count) (page day first room) ≡ take count (page day first room)
  page-part count = go (leb count room) refl
    where
      go : (b : Bool) → leb count room ≡ b → take (min room count) (page day first room) ≡ take count (page day first room)
      go true t =
          let h : count ≤ room = leb-true count room t in
          let m : min room count ≡ count = omega arith in
          rw m
      go false t =
          let h : room < count = leb-false count room t in
          let m : min room count ≡ room = omega arith in
          let f = page-few in
          rw m (take_all room (page day first room) f ∙ sym (take_all count (page day first room) (omega (arith, f, h))))

  -- a text has room for every answer
  pub modest : day.counts.choices ≤ 64 → day.counts.slots ≤ 24 → room ≤ 1024 → {answer : PlansAnswer} → Lists day first room budget answer → Modest answer
  modest choices slots rooms (lists-all c t) = (let h = page-few in omega (arith, h), page-member day first room choices slots)
  modest choices slots rooms (lists-page r l) = (let h = page-few in omega (arith, h), page-member day first room choices slots)
  modest choices slots rooms (lists-some met n l o) = (
    let h = page-few in let t = length-take (met - first) (page day first room) in omega (arith, h, t),
    λ plan m. page-member day first room choices slots plan (member-take (met - first) (page day first room) plan m),
  )

  -- ---- the call on a judged day

  module _ (buffer : List ℕ) where
    -- what the call's promise comes to, case by case
    abbrev Within : Told PageTold → List ℕ → Type 0
    Within (done told) buffer' = Gives day first room budget buffer told buffer'
    Within (refused why carried) buffer' = judge_of day room (length buffer) ≡ refused why carried

    within-fits : {told : Told PageTold} {buffer' : List ℕ} → Fits day first room budget buffer told buffer' → Within told buffer'
    within-fits (refuses why carried e) = e
    within-fits (gives j told buffer' g) = g

    module _ (size : length buffer ≡ room * day.counts.choices) where
      flat_fits : (count : ℕ) → 0 + length (flatten (take count (page day first room))) ≤ length buffer
      flat_fits count =
          let front = take count (page day first room) in
          let e = sized-length day.counts.choices front (sized-take _ count (page day first room) page-sized) in
          let f : length front ≤ room = let h = page-few in let t = length-take count (page day first room) in omega (arith, h, t) in
          let m : length front * day.counts.choices ≤ room * day.counts.choices = mul-le-mul_right day.counts.choices f in
          omega (arith, e, m, size)

      -- the plans written are read back from the front of what is lent
      plans-stored : (count : ℕ) (rest : List ℕ) → count ≤ length (page day first room)
          → plans_in count day.counts.choices (page_put day first room budget buffer count ++ rest) ≡ take count (page day first room)
      unfolding page_put
      plans-stored count rest h =
          let front = take count (page day first room) in
          let n : length front ≡ count = length-take-le count (page day first room) h in
          ap (λ (k : ℕ). plans_in k day.counts.choices (sets buffer 0 (flatten front) ++ rest)) (sym n)
          ∙ plans-in day.counts.choices front (sets buffer 0 (flatten front) ++ rest) (drop (0 + length (flatten front)) buffer ++ rest) (sized-take _ count (page day first room) page-sized)
          (ap (λ (b : List ℕ). b ++ rest) (sets-eq (flatten front) buffer 0 (flat_fits count)) ∙ append_assoc (flatten front) _ rest)

      stored-length : (count : ℕ) → length (page_put day first room budget buffer count) ≡ length buffer
      unfolding page_put
      stored-length count = length-sets buffer 0 (flatten (take count (page day first room)))

      pub record Shows (told : PageTold) (buffer' : List ℕ) : Type 0 where
        pub listed : number told < 2 ^ 64 → (rest : List ℕ) → Lists day first room budget (answer_with first told (plans_in (written told) day.counts.choices (buffer' ++ rest)))
        pub few : written told ≤ room
        pub numbered : first < 2 ^ 64 → number told < 2 ^ 64 → first + written told < 2 ^ 64
        pub same : length buffer' ≡ length buffer

      pub shows : {told : PageTold} {buffer' : List ℕ} → Gives day first room budget buffer told buffer' → Shows told buffer'
      shows (ended c) =
          record {
            listed = λ t rest. rw (plans-stored (length (page day first room)) rest (omega arith), take-length (page day first room)) (lists-all c t);
            few = page-few;
            numbered = λ f n. let k = page-count in omega (arith, f, n, k);
            same = stored-length (length (page day first room));
          }
      shows (goes_on r l) =
          let k = page-count in
          record {
            listed = λ t rest. rw (plans-stored room rest (omega (arith, k, l)), take_all room (page day first room) page-few) (lists-page r l);
            few = omega arith;
            numbered = λ f n. omega (arith, n);
            same = stored-length room;
          }
      shows (out met n l o) =
          let k = page-count in
          record {
            listed = λ t rest. rw (plans-stored (min room (met - first)) rest (omega (arith, k, l)), page-part (met - first)) (lists-some met n l o);
            few = omega arith;
            numbered = λ f m. omega (arith, f, m);
            same = stored-length (min room (met - first));
          }

-- ---- the call as the text's maker makes it: a page of 65,536 bytes, of which it lends as many as the room
-- asks for

-- a page of zeros is at its full limit
pub page-full : 65536 ≡ length {A = ℕ} (replicate 65536 0)
page-full = sym (length-replicate {A = ℕ} 65536 0)

module _ (day : Day) (first room budget : ℕ) (is-good : judge_of day room (room * day.counts.choices) ≡ good) (rooms : room ≤ 1024) (array : List ℕ) (full : 65536 ≡ length array) where
  abbrev size : ℕ
  size = room * day.counts.choices

  few : (day.counts.choices ≤ 64) × (day.counts.slots ≤ 24)
  unfolding judge_of
  few =
      let rest = unless (list_lengths_fit day room size) 2 (and_then (rows_judged day.counts takes.Scheduling day.rows) (flags_judged day.optional)) in
      let w = within day.counts takes.Scheduling (unless-done (counts_in_range day.counts takes.Scheduling) 1 rest is-good).0 in (w.choices, w.slots)

  pub page-size : size ≤ 65536
  page-size =
      let a : room * day.counts.choices ≤ 1024 * day.counts.choices = mul-le-mul_right day.counts.choices rooms in
      let f = few.0 in
      omega (arith, a, f)

  pub page-fits : size ≤ length array
  page-fits = let h = page-size in omega (arith, h, full)

  pub lent_length : length (take size array) ≡ size
  lent_length = length-take-le size array page-fits

  lent-good : judge_of day room (length (take size array)) ≡ good
  lent-good = ap (judge_of day room) lent_length ∙ is-good

  module _ (result : Result Paged Refusal) {lent : List ℕ} (e : Fits day first room budget (take size array) (paged_tells result) lent) where
    -- a page, told in one of the three ways
    module _ (told : PageTold) (t : paged_tells result ≡ done told) where
      shown : Shows day first room budget (take size array) lent_length told lent
      shown =
          shows day first room budget (take size array) lent_length
          (subst (λ (z : Told PageTold). Within day first room budget (take size array) z lent) t (within-fits day first room budget (take size array) e))

      pub page-whole : length (lent ++ drop size array) ≡ 65536
      page-whole =
          length-append lent (drop size array)
          ∙ let a = shown.same ∙ lent_length in
          let b = length-drop size array in
          let p = page-fits in
          omega (arith, a, b, p, full)

      page-holds : written told * day.counts.choices ≤ length (lent ++ drop size array)
      page-holds =
          let w : written told * day.counts.choices ≤ room * day.counts.choices = mul-le-mul_right day.counts.choices shown.few in
          let p = page-size in
          let l = page-whole in
          omega (arith, w, p, l)

      -- its text is put
      pub page_puts : (head : List ℕ) → length head ≤ 29 → ((plans : List (List ℕ)) → page_text head first (number told) plans ≡ answer_text (answer_with first told plans))
          → (text : List ℕ) → length text ≡ 288818 → first < 2 ^ 64 → number told < 2 ^ 64
          → {from count choices : ℕ} {page : List ℕ} → from ≡ first → count ≡ written told → choices ≡ day.counts.choices → page ≡ lent ++ drop size array → {text' : List ℕ} {end : ℕ}
          → pool text' end ≡ put_page text head from (number told) count choices page
          → Puts (Lists day first room budget) text text' end
      page_puts head short is text l f n {from} {count} {choices} {page} a b c d p =
          let w : written told ≤ 1024 = let h = shown.few in omega (arith, h, rooms) in
          record {
            answer = answer_with first told (plans_in (written told) day.counts.choices (lent ++ drop size array));
            may = shown.listed n (drop size array);
            put =
                p
                ∙ rw (a, b, c, d) refl
                ∙ page-put text head first (number told) (written told) day.counts.choices (lent ++ drop size array) w few.0 page-holds (shown.numbered f n) short (omega (arith, l))
                ∙ ap (put_at text 0) (is (plans_in (written told) day.counts.choices (lent ++ drop size array)));
          }

    -- never a refusal
    pub page-refused : {why : Refusal} → result ≡ Err why → ⊥
    page-refused t =
        refused-not-done (sym (subst (λ (z : Told PageTold). Within day first room budget (take size array) z lent) (ap paged_tells t) (within-fits day first room budget (take size array) e)) ∙ lent-good)
