-- Entries that are read, or compared, one after another.
use mathlib.Core.Logic.{◌⊎◌, inl, inr}
use mathlib.Core.Path.{subst}
use mathlib.Core.Bool.{not}
use Rattle.std.proofs.Common.{◌≡◌, ℕ, zero, suc, ◌+◌, ◌%◌, ◌^◌, ◌-◌, ◌<◌, ◌≤◌, Bool, true, false, List, [], ◌∷◌, ◌++◌, length, take, drop, get_or, sym, refl, ap, ◌∙◌, add-one, arith, length-take-le, drop_of_length-le}
use Rattle.std.proofs.lemmas.Bool.{not-false, not-true}
use Rattle.std.proofs.lemmas.List.{drop_more, take_more_set}
use Rattle.std.proofs.Math.ListN.{set}
use Rattle.test_cases.specs.steps.Readings.{EachRead, Agreed}

-- the place that so many entries from a place on come to
pub place : ℕ → ℕ → ℕ → ℕ
place apart at zero = at
place apart at (suc n) = place apart ((at + apart) % 2 ^ 64) n

-- one entry on
place-next : (apart at n : ℕ) → place apart at (suc n) ≡ (place apart at n + apart) % 2 ^ 64
unfolding place
place-next apart at zero = refl
place-next apart at (suc n) = place-next apart ((at + apart) % 2 ^ 64) n

module _ {T : Type 0} (reads : ℕ → T → Type 0) (apart : ℕ) where
  -- none is read yet
  pub read-none : (at : ℕ) → (at ≡ place apart at 0) × EachRead reads apart at []
  unfolding EachRead place
  read-none at = (refl, tt)

  -- one more is read behind a list
  snoc : (at : ℕ) (xs : List T) (x : T) → EachRead reads apart at xs → reads (place apart at (length xs)) x → EachRead reads apart at (xs ++ x ∷ [])
  unfolding EachRead place
  snoc at [] x h r = (r, tt)
  snoc at (y ∷ ys) x h r = (h.0, snoc ((at + apart) % 2 ^ 64) ys x h.1 r)

  -- one more is read, and the place after it
  pub read-more : (from at next i : ℕ) (xs : List T) (x : T) → i < length xs → at ≡ place apart from i → next ≡ (at + apart) % 2 ^ 64 → reads at x
      → EachRead reads apart from (take i xs) → (next ≡ place apart from (i + 1)) × EachRead reads apart from (take (i + 1) (set xs i x))
  read-more from at next i xs x h a n r e =
      let l : length (take i xs) ≡ i = length-take-le i xs (omega (arith, h)) in
      let p : at ≡ place apart from (length (take i xs)) = a ∙ ap (place apart from) (sym l) in (
        n ∙ ap (λ (k : ℕ). (k + apart) % 2 ^ 64) a ∙ sym (place-next apart from i) ∙ ap (place apart from) (sym (add-one i)),
        subst (EachRead reads apart from) (sym (take_more_set xs i x h)) (snoc from (take i xs) x e (subst (λ (k : ℕ). reads k x) p r)),
      )

-- what the i-th entry is held against: what is read at its place, or past the n-th another one
abbrev pub Held : {T : Type 0} → (ℕ → T → Type 0) → T → ℕ → ℕ → ℕ → T → Type 0
Held reads past at n i y = ((i < n) × reads at y) ⊎ ((n ≤ i) × (y ≡ past))

module _ {T : Type 0} (reads : ℕ → T → Type 0) (eq : T → T → Bool) (past : T) (apart : ℕ) where
  -- the same, by how many are left to be read
  abbrev Expected : ℕ → ℕ → T → Type 0
  Expected at zero y = y ≡ past
  Expected at (suc n) y = reads at y

  -- the i-th of n is the first of the n - i that are left
  expected : (n i at : ℕ) (y : T) → Held reads past at n i y → Expected at (n - i) y
  expected n i at y h = go (n - i) refl h
    where
      go : (k : ℕ) → n - i ≡ k → Held reads past at n i y → Expected at k y
      go zero e (inl h) = absurd (omega (arith, e, h.0))
      go zero e (inr h) = h.1
      go (suc k) e (inl h) = h.1
      go (suc k) e (inr h) = absurd (omega (arith, e, h.0))

  -- the first is as expected, and the rest decides
  on : (at n m : ℕ) (x y : T) (rest : List T) (told : Bool) → n - 1 ≡ m → Expected at n y → eq x y ≡ true → Agreed reads eq past apart ((at + apart) % 2 ^ 64) m rest told → Agreed reads eq past apart at n (x ∷ rest) told
  unfolding Agreed
  on at zero m x y rest told d e h r =
      let z : m ≡ 0 = omega (arith, d) in
      inl (ap (eq x) (sym e) ∙ h, subst (λ (k : ℕ). Agreed reads eq past apart ((at + apart) % 2 ^ 64) k rest told) z r)
  on at (suc n) m x y rest told d e h r =
      let z : m ≡ n = omega (arith, d) in
      (y, e, inl (h, subst (λ (k : ℕ). Agreed reads eq past apart ((at + apart) % 2 ^ 64) k rest told) z r))

  -- the first isn't
  stop : (at n : ℕ) (x y : T) (rest : List T) → Expected at n y → eq x y ≡ false → Agreed reads eq past apart at n (x ∷ rest) false
  unfolding Agreed
  stop at zero x y rest e h = inr (ap (eq x) (sym e) ∙ h, refl)
  stop at (suc n) x y rest e h = (y, e, inr (h, refl))

  -- none is left
  none : (at n : ℕ) → Agreed reads eq past apart at n [] true
  unfolding Agreed
  none at n = refl

  -- an entry that is as expected leaves the answer to those after it, one that isn't says no, and with none
  -- left it is yes
  module _ (n i at : ℕ) (pool : List T) where
    module _ (x y : T) (h : i < length pool) (is : x ≡ get_or pool i x) (e : Held reads past at n i y) where
      here : drop i pool ≡ x ∷ drop (i + 1) pool
      here = drop_more pool i x h ∙ ap (λ (z : T). z ∷ drop (i + 1) pool) (sym is)

      pub agreed-on : (next : ℕ) (told : Bool) → false ≡ not (eq x y) → next ≡ (at + apart) % 2 ^ 64
          → Agreed reads eq past apart next (n - (i + 1)) (drop (i + 1) pool) told → Agreed reads eq past apart at (n - i) (drop i pool) told
      agreed-on next told q a r =
          let m : n - i - 1 ≡ n - (i + 1) = omega arith in
          let k = subst (λ (p : ℕ). Agreed reads eq past apart p (n - (i + 1)) (drop (i + 1) pool) told) a r in
          subst (λ (l : List T). Agreed reads eq past apart at (n - i) l told) (sym here)
          (on at (n - i) (n - (i + 1)) x y (drop (i + 1) pool) told m (expected n i at y e) (not-false _ (sym q)) k)

      pub agreed-not : true ≡ not (eq x y) → Agreed reads eq past apart at (n - i) (drop i pool) false
      agreed-not q =
          subst (λ (l : List T). Agreed reads eq past apart at (n - i) l false) (sym here)
          (stop at (n - i) x y (drop (i + 1) pool) (expected n i at y e) (not-true _ (sym q)))

    pub agreed-end : length pool ≤ i → Agreed reads eq past apart at (n - i) (drop i pool) true
    agreed-end h = subst (λ (l : List T). Agreed reads eq past apart at (n - i) l true) (sym (drop_of_length-le pool h)) (none at (n - i))
