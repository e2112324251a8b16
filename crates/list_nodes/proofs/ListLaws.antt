-- The second run: a law for each way through its functions.
use mathlib.Core.Path.{◌≡◌, refl, sym, ap, ◌∙◌}
use mathlib.Core.Bool.{Bool, true, false, cond}
use mathlib.Core.List.{List, [], ◌∷◌, ◌++◌, append-nil, flat_map}
use Prim.Native.Nat.{ℕ, zero, suc, ◌+◌, ◌-◌, ◌≤◌, ◌<◌, ◌^◌}
use native.Mathlib.Numerals.{add-one}
use native.Mathlib.Omega.{arith}
use borrow.Author.Tests.{lt-ltb, le-ltb}
use lib.Arith.{lt_of_le-ne}
use lib.ListN.{length, set, take, length-set, length-append}
use lib.Seq.{take-length, length-take-le, take-take, take-set-le, take-suc-set}
use Rattle.plan_check.specs.Day.{Day}
use Rattle.list_nodes.specs.steps.Walk.{places_from, place_of, place_fits, next_open, sums_with, sums_without, goes_to, sums_to, if_feasible, plans_from, plans_at, plans_left}
use Rattle.list_nodes.specs.steps.Runs.{Walks, Stands, Shaped, Lists, Added, Listing, Open}
use Rattle.list_nodes.proofs.PlaceLaws.{places-start, places-next, places-last, walks_next, walks-taken, sum-held, sums-left, open_within, open_next}
use Rattle.list_nodes.proofs.PageLaws.{none-added, added_more}

-- ---- the plans, by the code's numbers

module _ (day : Day) (n : ℕ) (start sums : List ℕ) where
  -- the plans with one of the last so many places are those with a place from a slot on
  left-past : (left : ℕ) → left ≤ day.counts.slots
      → plans_left day n start sums (suc left) ≡ flat_map (plans_at day n start sums) (places_from day.counts.slots (day.counts.slots - left))
  unfolding plans_left place_of flat_map
  left-past zero h =
      let z : day.counts.slots - 0 ≡ day.counts.slots = omega arith in
      rw (z, places-last day.counts.slots, le-ltb day.counts.slots day.counts.slots (omega arith))
  left-past (suc left) h =
      let k : day.counts.slots - suc left < day.counts.slots = omega arith in
      let e : day.counts.slots - suc left + 1 ≡ day.counts.slots - left = omega arith in
      rw (places-next day.counts.slots (day.counts.slots - suc left) k, lt-ltb (day.counts.slots - suc left) day.counts.slots k, e)
      (ap (λ (l : List (List ℕ)). plans_at day n start sums (day.counts.slots - suc left) ++ l) (left-past left (omega arith)))

  -- the plans with one place, and those with the places after it
  left-next : (left : ℕ) → 0 < left
      → plans_left day n start sums left ≡ plans_at day n start sums (place_of day.counts.slots (day.counts.slots + 1 - left)) ++ plans_left day n start sums (left - 1)
  unfolding plans_left
  left-next zero h = absurd (omega arith)
  left-next (suc left) h =
      let e : day.counts.slots + 1 - suc left ≡ day.counts.slots - left = omega arith in
      let k : suc left - 1 ≡ left = omega arith in
      rw (e, k)

  module _ {choice : ℕ} (at : length start ≡ choice) where
    -- the plans with a place that the next choice may take
    plans-taken : (place : ℕ) → place_fits day.counts.slots day.counts.choosers day.mins day.optional sums choice place ≡ true
        → plans_at day n start sums place ≡ plans_from day n (start ++ (place ∷ [])) (sums_with day.counts.slots day.mins sums choice place)
    unfolding plans_at goes_to sums_to
    plans-taken place t = rw (at, t)

    -- the places before the next one that the choice may take add no plan
    left_open : (left : ℕ)
        → plans_left day n start sums (next_open day.counts.slots day.counts.choosers day.mins day.optional sums choice left) ≡ plans_left day n start sums left
    unfolding plans_left next_open plans_at goes_to
    left_open zero = refl
    left_open (suc left) = go (place_fits day.counts.slots day.counts.choosers day.mins day.optional sums choice (place_of day.counts.slots (day.counts.slots - left))) refl (left_open left)
      where
        go : (b : Bool) → place_fits day.counts.slots day.counts.choosers day.mins day.optional sums choice (place_of day.counts.slots (day.counts.slots - left)) ≡ b
            → plans_left day n start sums (next_open day.counts.slots day.counts.choosers day.mins day.optional sums choice left) ≡ plans_left day n start sums left
            → plans_left day n start sums (cond b (suc left) (next_open day.counts.slots day.counts.choosers day.mins day.optional sums choice left)) ≡ plans_left day n start sums (suc left)
        go true t ih = refl
        go false t ih = ih ∙ rw (at, t)

module _ (day : Day) (plan sums : List ℕ) (choice : ℕ) where
  -- no choice is left: the plan itself, if it is feasible
  plans-full : choice ≡ length plan → plans_from day (length plan - choice) (take choice plan) sums ≡ if_feasible day plan
  unfolding plans_from
  plans-full e =
      let z : length plan - choice ≡ 0 = omega arith in
      rw (z, e) (ap (if_feasible day) (take-length plan))

  -- a choice is left: the plans with any of its places
  plans-on : choice < length plan
      → plans_from day (length plan - choice) (take choice plan) sums ≡ plans_left day (length plan - (choice + 1)) (take choice plan) sums (day.counts.slots + 1)
  unfolding plans_from plans_at
  plans-on h =
      let e : length plan - choice ≡ suc (length plan - (choice + 1)) = omega arith in
      let z : day.counts.slots - day.counts.slots ≡ 0 = omega arith in
      rw (e, add-one day.counts.slots)
      (rw (sym (places-start day.counts.slots), sym z) (sym (left-past day (length plan - (choice + 1)) (take choice plan) sums day.counts.slots (omega arith))))

-- ---- a choice set at the start's end

module _ (choice : ℕ) (plan : List ℕ) (h : choice < length plan) where
  pub start-length : length (take choice plan) ≡ choice
  start-length = length-take-le choice plan (omega arith)

  module _ (place : ℕ) where
    pub next_start : take (choice + 1) (set plan choice place) ≡ take choice plan ++ (place ∷ [])
    next_start = rw (add-one choice) (take-suc-set plan choice place h)

    next-plans : (day : Day) (sums : List ℕ)
        → plans_from day (length (set plan choice place) - (choice + 1)) (take (choice + 1) (set plan choice place)) sums
        ≡ plans_from day (length plan - (choice + 1)) (take choice plan ++ (place ∷ [])) sums
    next-plans day sums = rw (length-set plan choice place, next_start)

    -- the start before the choice stays as it was
    pub start-kept : (plan' : List ℕ) → take (choice + 1) plan' ≡ take (choice + 1) (set plan choice place) → take choice plan' ≡ take choice plan
    start-kept plan' e =
        sym (take-take choice (choice + 1) plan' (omega arith))
        ∙ ap (take choice) e
        ∙ take-take choice (choice + 1) (set plan choice place) (omega arith)
        ∙ take-set-le choice plan choice place (omega arith)

-- the shapes of a plan and a page depend on lengths alone
pub shaped-kept : {day : Day} {room : ℕ} {plan plan' buffer buffer' : List ℕ} → Shaped day room plan buffer → length plan' ≡ length plan → length buffer' ≡ length buffer
    → Shaped day room plan' buffer'
shaped-kept s p b =
    record {
      few-choices = s.few-choices;
      few-slots = s.few-slots;
      mins-fit = s.mins-fit;
      maxs-fit = s.maxs-fit;
      optional-fits = s.optional-fits;
      plan-fits = p ∙ s.plan-fits;
      buffer-fits = b ∙ s.buffer-fits;
    }

-- the place with so many left, and the plans that go on with it
abbrev place_with : Day → ℕ → ℕ
place_with day left = place_of day.counts.slots (day.counts.slots + 1 - left)

abbrev plans_with : Day → ℕ → ℕ → List ℕ → List ℕ → List (List ℕ)
plans_with day choice left plan sums = plans_at day (length plan - (choice + 1)) (take choice plan) sums (place_with day left)

-- ---- a choice

module _ {day : Day} {room choice : ℕ} {plan sums : List ℕ} {total : ℕ} {buffer : List ℕ}
    (l : Lists day room choice plan sums (plans_from day (length plan - choice) (take choice plan) sums) total buffer) where
  -- a full start has a number for its plan
  pub full-numbers : choice ≡ length plan → total + length (if_feasible day plan) < 2 ^ 64
  full-numbers e = rw (plans-full day plan sums choice e) at l.numbers

  pub listing_full : {first total' : ℕ} {plan' buffer' : List ℕ} → choice ≡ length plan → plan' ≡ plan → Added first room (if_feasible day plan) total total' buffer buffer'
      → Listing first room choice (plans_from day (length plan - choice) (take choice plan) sums) plan plan' sums sums total total' buffer buffer'
  listing_full e p a =
      record { added = rw (plans-full day plan sums choice e) a; start = ap (take choice) p; kept = refl; same-plan = ap length p }

  module _ (n : choice ≡ length plan → ⊥) where
    left : choice < length plan
    left =
        let k : choice ≤ length plan = omega (arith, l.walks.within, l.shaped.mins-fit, l.shaped.plan-fits) in
        lt_of_le-ne k n

    pub on-walks : Walks day.counts.slots day.counts.choosers day.mins day.optional (choice + 1) sums
    on-walks = walks_next l.walks (λ e. n (e ∙ l.shaped.mins-fit ∙ sym l.shaped.plan-fits))

    -- any other start goes on to the places that its choice may take
    module _ {next : ℕ} (e : next ≡ next_open day.counts.slots day.counts.choosers day.mins day.optional sums choice (day.counts.slots + 1)) where
      on-plans : plans_from day (length plan - choice) (take choice plan) sums ≡ plans_left day (length plan - (choice + 1)) (take choice plan) sums next
      on-plans =
          plans-on day plan sums choice left
          ∙ sym (rw e (left_open day (length plan - (choice + 1)) (take choice plan) sums (start-length choice plan left) (day.counts.slots + 1)))

      pub on_none : {first : ℕ} → next ≡ 0
          → Listing first room choice (plans_from day (length plan - choice) (take choice plan) sums) plan plan sums sums total total buffer buffer
      unfolding plans_left
      on_none {first} z =
          record { added = rw (on-plans ∙ ap (plans_left day (length plan - (choice + 1)) (take choice plan) sums) z) (none-added first room); start = refl; kept = refl; same-plan = refl }

      pub on_requires : (next ≡ 0 → ⊥)
          → Lists day room (choice + 1) plan sums (plans_left day (length plan - (choice + 1)) (take choice plan) sums next) total buffer × Open day choice next sums
      on_requires k = (
        record { shaped = l.shaped; walks = on-walks; numbers = rw on-plans at l.numbers },
        open_next day choice (day.counts.slots + 1) sums (omega arith) e k,
      )

      pub listing_on : {first total' : ℕ} {plan' sums' buffer' : List ℕ}
          → Listing first room choice (plans_left day (length plan - (choice + 1)) (take choice plan) sums next) plan plan' sums sums' total total' buffer buffer'
          → Listing first room choice (plans_from day (length plan - choice) (take choice plan) sums) plan plan' sums sums' total total' buffer buffer'
      listing_on g = rw on-plans g

-- ---- a place

module _ (choice left : ℕ) {day : Day} {room : ℕ} {plan sums : List ℕ} {total : ℕ} {buffer : List ℕ}
    (l : Lists day room (choice + 1) plan sums (plans_left day (length plan - (choice + 1)) (take choice plan) sums left) total buffer) (o : Open day choice left sums) where
  pub within-plan : choice < length plan
  within-plan = omega (arith, l.walks.within, l.shaped.mins-fit, l.shaped.plan-fits)

  at-start : length (take choice plan) ≡ choice
  at-start = start-length choice plan within-plan

  here-next : plans_left day (length plan - (choice + 1)) (take choice plan) sums left
      ≡ plans_with day choice left plan sums ++ plans_left day (length plan - (choice + 1)) (take choice plan) sums (left - 1)
  here-next = left-next day (length plan - (choice + 1)) (take choice plan) sums left o.some

  both-numbers : total + (length (plans_with day choice left plan sums) + length (plans_left day (length plan - (choice + 1)) (take choice plan) sums (left - 1))) < 2 ^ 64
  both-numbers = rw (here-next, length-append) at l.numbers

  -- the choice stands at the place
  module _ {at : ℕ} (place_is : at ≡ day.counts.slots + 1 - left) {plan' sums' : List ℕ} (p' : plan' ≡ set plan choice (place_of day.counts.slots at))
      (q' : sums' ≡ sums_with day.counts.slots day.mins sums choice (place_of day.counts.slots at)) where
    p : plan' ≡ set plan choice (place_with day left)
    p = p' ∙ ap (λ (k : ℕ). set plan choice (place_of day.counts.slots k)) place_is

    q : sums' ≡ sums_with day.counts.slots day.mins sums choice (place_with day left)
    q = q' ∙ ap (λ (k : ℕ). sums_with day.counts.slots day.mins sums choice (place_of day.counts.slots k)) place_is

    here-plans : plans_with day choice left plan sums ≡ plans_from day (length plan' - (choice + 1)) (take (choice + 1) plan') sums'
    here-plans =
        plans-taken day (length plan - (choice + 1)) (take choice plan) sums at-start (place_with day left) o.fits
        ∙ sym (rw (p, q) (next-plans choice plan within-plan (place_with day left) day (sums_with day.counts.slots day.mins sums choice (place_with day left))))

    pub taken_requires : Lists day room (choice + 1) plan' sums' (plans_from day (length plan' - (choice + 1)) (take (choice + 1) plan') sums') total buffer
    taken_requires =
        record {
          shaped = shaped-kept l.shaped (rw p (length-set plan choice (place_with day left))) refl;
          walks = rw q (walks-taken choice (day.counts.slots + 1 - left) l.walks o.fits);
          numbers = rw (sym here-plans) (omega (arith, both-numbers));
        }

    module _ {first total₁ : ℕ} {plan₁ sums₁ buffer₁ : List ℕ}
        (g : Listing first room (choice + 1) (plans_from day (length plan' - (choice + 1)) (take (choice + 1) plan') sums') plan' plan₁ sums' sums₁ total total₁ buffer buffer₁) where
      stands : Stands day.counts.slots day.mins choice (day.counts.slots + 1 - left) sums₁
      stands =
          record {
            few-slots = l.shaped.few-slots;
            few-choices = l.walks.few-choices;
            within = omega (arith, l.walks.within);
            so_far = omega (arith, o.some);
            held = λ k. rw (g.kept ∙ q) (sum-held choice (day.counts.slots + 1 - left) l.walks (omega (arith, l.shaped.few-slots)) k);
          }

      pub stands_after : Stands day.counts.slots day.mins choice at sums₁
      stands_after = rw place_is stands

      -- the choice leaves the place again
      module _ {sums₂ : List ℕ} (e : sums₂ ≡ sums_without day.counts.slots day.mins sums₁ choice (place_of day.counts.slots at)) where
        back : sums₂ ≡ sums
        back =
            e
            ∙ ap (λ (k : ℕ). sums_without day.counts.slots day.mins sums₁ choice (place_of day.counts.slots k)) place_is
            ∙ rw (g.kept ∙ q) (sums-left choice (day.counts.slots + 1 - left) l.walks)

        same : length plan₁ ≡ length plan
        same = g.same-plan ∙ ap length p ∙ length-set plan choice (place_with day left)

        before : take choice plan₁ ≡ take choice plan
        before = start-kept choice plan within-plan (place_with day left) plan₁ (rw p at g.start)

        pub walks-back : Walks day.counts.slots day.counts.choosers day.mins day.optional (choice + 1) sums₂
        walks-back = rw back l.walks

        -- after it the choice goes to the places left that it may take
        module _ {next : ℕ} (m : next ≡ next_open day.counts.slots day.counts.choosers day.mins day.optional sums₂ choice (left - 1)) where
          pub fewer : next < left
          fewer = omega (arith, m, open_within day.counts.slots day.counts.choosers day.mins day.optional sums₂ choice (left - 1), o.some)

          rest-plans : plans_left day (length plan₁ - (choice + 1)) (take choice plan₁) sums₂ next ≡ plans_left day (length plan - (choice + 1)) (take choice plan) sums (left - 1)
          rest-plans =
              rw (same, before, m)
              (rw back (left_open day (length plan - (choice + 1)) (take choice plan) sums at-start (left - 1)))

          both-plans : plans_left day (length plan - (choice + 1)) (take choice plan) sums left
              ≡ plans_from day (length plan' - (choice + 1)) (take (choice + 1) plan') sums' ++ plans_left day (length plan₁ - (choice + 1)) (take choice plan₁) sums₂ next
          both-plans = here-next ∙ rw (here-plans, sym rest-plans)

          pub none_left : next ≡ 0
              → Listing first room choice (plans_left day (length plan - (choice + 1)) (take choice plan) sums left) plan plan₁ sums sums₂ total total₁ buffer buffer₁
          unfolding plans_left
          none_left z =
              record {
                added = rw (both-plans ∙ ap (λ (k : ℕ). plans_from day (length plan' - (choice + 1)) (take (choice + 1) plan') sums' ++ plans_left day (length plan₁ - (choice + 1)) (take choice plan₁) sums₂ k) z ∙ append-nil (plans_from day (length plan' - (choice + 1)) (take (choice + 1) plan') sums')) g.added;
                start = before;
                kept = back;
                same-plan = same;
              }

          pub rest_requires : length buffer₁ ≡ length buffer → (next ≡ 0 → ⊥)
              → Lists day room (choice + 1) plan₁ sums₂ (plans_left day (length plan₁ - (choice + 1)) (take choice plan₁) sums₂ next) total₁ buffer₁ × Open day choice next sums₂
          rest_requires b k = (
            record {
              shaped = shaped-kept l.shaped same b;
              walks = walks-back;
              numbers = rw rest-plans (omega (arith, both-numbers, g.added.counted, ap length here-plans));
            },
            open_next day choice (left - 1) sums₂ (omega (arith, o.few)) m k,
          )

          pub listing_rest : {total' : ℕ} {plan₂ sums₃ buffer' : List ℕ}
              → Listing first room choice (plans_left day (length plan₁ - (choice + 1)) (take choice plan₁) sums₂ next) plan₁ plan₂ sums₂ sums₃ total₁ total' buffer₁ buffer'
              → Listing first room choice (plans_left day (length plan - (choice + 1)) (take choice plan) sums left) plan plan₂ sums sums₃ total total' buffer buffer'
          listing_rest d =
              record {
                added = rw both-plans (added_more first room _ _ g.added d.added);
                start = d.start ∙ before;
                kept = d.kept ∙ back;
                same-plan = d.same-plan ∙ same;
              }
