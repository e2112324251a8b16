-- Whatever the eyes, if they are safe, the walk meets the plans of request 03, each once and in dictionary
-- order.
use mathlib.Core.Path.{◌≡◌, refl, sym, ap, ◌∙◌}
use mathlib.Core.Bool.{Bool, true, false, cond, false≢true}
use mathlib.Core.List.Memᴰ
use mathlib.Core.List.{List, [], ◌∷◌, ◌++◌, map, append-nil, Memᴰ}
use Prim.Native.Nat.{ℕ, zero, suc, ◌+◌}
use native.Mathlib.Omega.{arith}
use lib.ListN.{length, drop, length-append}
use Rattle.base_lists.specs.Keep.{keep}
use Rattle.base_lists.proofs.Keep.{in_map, map_in, in_flat_map, kept_in, in_kept}
use Rattle.plan_check.specs.Day.{Day}
use Rattle.plan_check.specs.Feasible.{feasible}
use Rattle.list_nodes.specs.Placements.{places, placements, plans}
use Rattle.list_nodes.specs.steps.Walk.{if_feasible}
use Rattle.list_nodes.proofs.Members.{placement_length, feasible-listed}
use Rattle.list_nodes.proofs.WholeLaws.{after, spread, map_same}
use Rattle.list_nodes.specs.steps.Alive.{Event, plan, plans_in, passing, Eyes, events, Safe}
use Rattle.list_nodes.proofs.EventLaws.{passing-plans, plans-told}

pub not_true_false : (b : Bool) → (b ≡ true → ⊥) → b ≡ false
not_true_false true h = absurd (h refl)
not_true_false false h = refl

-- nothing is kept of a list whose members all fail
keep-none : (p : List ℕ → Bool) (f : List ℕ → List ℕ) (l : List (List ℕ)) → ((x : List ℕ) → Memᴰ x l → p (f x) ≡ false) → keep p (map f l) ≡ []
unfolding keep
keep-none p f [] h = refl
keep-none p f (x ∷ l) h = rw (h x (Memᴰ.head refl), keep-none p f l (λ y m. h y (Memᴰ.tail m)))

-- the length of a start and one place more
pub next-length : (start : List ℕ) (place n size : ℕ) → length start + suc n ≡ size → length (start ++ (place ∷ [])) + n ≡ size
next-length start place n size e = rw (length-append start (place ∷ [])) (omega arith)

-- no plan goes on from a start if every plan that does shows a test true which is false
none_after : (day : Day) (n : ℕ) (start : List ℕ) (b : Bool) → b ≡ false → length start + n ≡ day.counts.choices
    → ((rest : List ℕ) → length (start ++ rest) ≡ day.counts.choices → feasible day (start ++ rest) ≡ true → b ≡ true)
    → keep (feasible day) (after day.counts.slots start n) ≡ []
none_after day n start b f e h =
    keep-none (feasible day) (λ rest. start ++ rest) (placements day.counts.slots n) λ rest m.
    not_true_false (feasible day (start ++ rest)) λ t.
    false≢true (sym f ∙ h rest (length-append start rest ∙ ap (λ (k : ℕ). length start + k) (placement_length day.counts.slots n rest m) ∙ e) t)

-- what is left of a placement without its first places is a placement
rest-placed : (slots n size : ℕ) (start rest : List ℕ) → length start + n ≡ size → Memᴰ (start ++ rest) (placements slots size) → Memᴰ rest (placements slots n)
unfolding placements
rest-placed slots n size [] rest e m =
    let k : size ≡ n = omega arith in
    rw k at m
rest-placed slots n zero (place ∷ start) rest e m = absurd (omega arith)
rest-placed slots n (suc size) (place ∷ start) rest e m =
    let r = in_flat_map (λ first. map (λ rest. first ∷ rest) (placements slots size)) (places slots) (place ∷ (start ++ rest)) m in
    let q = in_map (λ rest. r.0 ∷ rest) (placements slots size) (place ∷ (start ++ rest)) r.2 in
    rest-placed slots n size start rest (omega arith) (rw (ap (drop 1) q.2) q.1)

-- where no placement that goes on from a start is feasible, no plan that does is
none-feasible : (day : Day) (n : ℕ) (start : List ℕ) → length start + n ≡ day.counts.choices → keep (feasible day) (after day.counts.slots start n) ≡ []
    → (rest : List ℕ) → length (start ++ rest) ≡ day.counts.choices → feasible day (start ++ rest) ≡ false
unfolding plans
none-feasible day n start e k rest l =
    not_true_false (feasible day (start ++ rest)) λ t.
    let slots = day.counts.slots in
    let placed = (kept_in (feasible day) (placements slots day.counts.choices) (start ++ rest) (feasible-listed day (start ++ rest) l t)).0 in
    Memᴰ.not-nil
    (rw k at
    (in_kept (feasible day) (after slots start n) (start ++ rest)
    (map_in (λ rest. start ++ rest) (placements slots n) rest (rest-placed slots n day.counts.choices start rest e placed))
    t))

module _ (day : Day) {X : Type 0} (eyes : Eyes X) {Holds : List ℕ → X → Type 0} (safe : Safe day eyes Holds) where
  -- from any start on the plans that are met are those that begin with it
  pub plans-met : (n : ℕ) (start : List ℕ) (x : X) → Holds start x → length start + n ≡ day.counts.choices
      → plans_in (events day eyes n start x) ≡ keep (feasible day) (after day.counts.slots start n)
  unfolding plans_in events keep placements if_feasible
  plans-met zero start x h e = go (eyes.worth start x) refl
    where
      go : (b : Bool) → eyes.worth start x ≡ b → plans_in (cond b (map plan (if_feasible day start)) []) ≡ keep (feasible day) (after day.counts.slots start 0)
      go true t = plans-told (if_feasible day start) ∙ rw (append-nil start)
      go false f = sym (none_after day 0 start (eyes.worth start x) f e λ rest l t. safe.worth start rest x h l t)
  plans-met (suc n) start x h e = go (eyes.worth start x) refl λ place o. plans-met n (start ++ (place ∷ [])) (eyes.next start x place) (safe.next start place x h (omega arith) o) (next-length start place n day.counts.choices e)
    where
      -- what happens at a place, and the plans that go on with it
      at : ℕ → List Event
      at place = events day eyes n (start ++ (place ∷ [])) (eyes.next start x place)

      there : ℕ → List (List ℕ)
      there place = keep (feasible day) (after day.counts.slots (start ++ (place ∷ [])) n)

      size : (place : ℕ) → length (start ++ (place ∷ [])) + n ≡ day.counts.choices
      size place = next-length start place n day.counts.choices e

      shut : (place : ℕ) → eyes.opens start x place ≡ false → there place ≡ []
      shut place o =
          none_after day n (start ++ (place ∷ [])) (eyes.opens start x place) o (size place) λ rest l t.
          safe.opens start rest place x h l t

      twins : (place later : ℕ) → eyes.opens start x place ≡ true → eyes.opens start x later ≡ true → eyes.twin start x place later ≡ true → there place ≡ [] → there later ≡ []
      twins place later o p t k =
          keep-none (feasible day) (λ rest. (start ++ (later ∷ [])) ++ rest) (placements day.counts.slots n) λ rest m.
          safe.twin start place later x h (omega arith) o p t (none-feasible day n (start ++ (place ∷ [])) (size place) k) rest
          (length-append (start ++ (later ∷ [])) rest ∙ ap (λ (k : ℕ). length (start ++ (later ∷ [])) + k) (placement_length day.counts.slots n rest m) ∙ size later)

      go : (b : Bool) → eyes.worth start x ≡ b → ((place : ℕ) → eyes.opens start x place ≡ true → plans_in (at place) ≡ there place)
          → plans_in (cond b (passing at (eyes.twin start x) (eyes.opens start x) (places day.counts.slots)) []) ≡ keep (feasible day) (after day.counts.slots start (suc n))
      go true t ih =
          passing-plans at (eyes.twin start x) there (eyes.opens start x) (places day.counts.slots) ih shut twins
          ∙ sym (spread day.counts.slots (feasible day) start n)
      go false f ih = sym (none_after day (suc n) start (eyes.worth start x) f e λ rest l t. safe.worth start rest x h l t)

  -- from the empty start on all plans of the day are met
  pub any_eyes : (x : X) → Holds [] x → plans_in (events day eyes day.counts.choices [] x) ≡ plans day
  unfolding plans
  any_eyes x h =
      plans-met day.counts.choices [] x h (omega arith)
      ∙ ap (keep (feasible day)) (map_same (placements day.counts.slots day.counts.choices))
