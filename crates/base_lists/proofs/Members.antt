-- Members of built lists: where each comes from.
use mathlib.Core.Path.{◌≡◌, refl}
use mathlib.Core.Bool.{Bool, true, false, cond}
use mathlib.Core.List.Memᴰ
use mathlib.Core.List.{List, [], ◌∷◌, flat_map, Memᴰ}
use mathlib.Core.Logic.{⊎_elim}
use Prim.Native.Nat.{ℕ, suc, ◌<◌, zero-le, suc-le-suc}
use lib.ListN.{length, get_or}

-- what holds at every place holds of every member
pub member-each {ℓ κ} : {A : Type ℓ} (P : A → Type κ) (xs : List A) (d : A) → ((k : ℕ) → k < length xs → P (get_or xs k d)) → {a : A} → Memᴰ a xs → P a
member-each P [] d h m = absurd (Memᴰ.not-nil m)
member-each P (x ∷ xs) d h m =
    ⊎_elim (λ e. rw e (h 0 (suc-le-suc zero-le))) (λ n. member-each P xs d (λ k hk. h (suc k) (suc-le-suc hk)) n) (Memᴰ.cases_cons m)

-- a member of parts joined stands in the part of some element
pub member-part {ℓ κ} : {A : Type ℓ} {B : Type κ} (f : A → List B) (xs : List A) {b : B} → Memᴰ b (flat_map f xs) → (x : A) × Memᴰ x xs × Memᴰ b (f x)
unfolding flat_map
member-part f [] m = absurd (Memᴰ.not-nil m)
member-part f (x ∷ xs) m =
    ⊎_elim (λ k. (x, Memᴰ.head refl, k)) (λ k. let r = member-part f xs k in (r.0, Memᴰ.tail r.1, r.2)) (Memᴰ.append_cases (f x) m)

-- a member of a list that stands only where a test holds: the test holds, and it is a member
pub member_if {ℓ} : {A : Type ℓ} (b : Bool) (l : List A) {a : A} → Memᴰ a (cond b l []) → (b ≡ true) × Memᴰ a l
member_if true l m = (refl, m)
member_if false l m = absurd (Memᴰ.not-nil m)

pub member-unless {ℓ} : {A : Type ℓ} (b : Bool) (l : List A) {a : A} → Memᴰ a (cond b [] l) → (b ≡ false) × Memᴰ a l
member-unless true l m = absurd (Memᴰ.not-nil m)
member-unless false l m = (refl, m)
