-- Small laws of lists that the page's words need.
use mathlib.Core.Path.{◌≡◌, refl, sym, ◌∙◌, ap}
use mathlib.Core.Bool.{Bool, true, false, ◌||◌}
use mathlib.Core.List.Memᴰ
use mathlib.Core.List.{List, [], ◌∷◌, Memᴰ}
use mathlib.Core.Logic.{⊎_elim}
use Prim.Native.Nat.{ℕ, suc, ◌<◌}
use native.Mathlib.Omega.{arith}
use lib.ListN.{length, get_or}
use Rattle.base_lists.specs.Keep.{any_of}

-- a member stands at a place
pub place-of : (l : List ℕ) {x : ℕ} → Memᴰ x l → (k : ℕ) × (k < length l) × (x ≡ get_or l k 0)
place-of [] m = absurd (Memᴰ.not-nil m)
place-of (y ∷ l) m =
    ⊎_elim (λ e. (0, omega arith, e)) (λ n. let p = place-of l n in (suc p.0, omega (arith, p.1), p.2)) (Memᴰ.cases_cons m)

-- some element passes exactly if there is one that does
pub any_some {ℓ} : {A : Type ℓ} (p : A → Bool) (l : List A) → any_of p l ≡ true → (x : A) × Memᴰ x l × (p x ≡ true)
unfolding any_of
any_some p [] h = absurd (let z : ◌≡◌ {A = ℕ} 0 1 = cc in omega arith)
any_some {A = A} p (y ∷ l) h = go (p y) refl h (any_some p l)
  where
    go : (b : Bool) → p y ≡ b → (b || any_of p l) ≡ true → (any_of p l ≡ true → (x : A) × Memᴰ x l × (p x ≡ true))
        → (x : A) × Memᴰ x (y ∷ l) × (p x ≡ true)
    go true e h ih = (y, Memᴰ.head refl, e)
    go false e h ih = let r = ih h in (r.0, Memᴰ.tail r.1, r.2)

pub some_any {ℓ} : {A : Type ℓ} (p : A → Bool) (l : List A) {x : A} → Memᴰ x l → p x ≡ true → any_of p l ≡ true
unfolding any_of
some_any p [] m h = absurd (Memᴰ.not-nil m)
some_any {A = A} p (y ∷ l) {x} m h = ⊎_elim (λ e. here (p y) (ap p (sym e) ∙ h)) (λ n. later (p y) (some_any p l n h)) (Memᴰ.cases_cons m)
  where
    here : (b : Bool) → b ≡ true → (b || any_of p l) ≡ true
    here b e = rw e

    later : (b : Bool) → any_of p l ≡ true → (b || any_of p l) ≡ true
    later true e = refl
    later false e = e
