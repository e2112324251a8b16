-- The bias of the extra column: the signed number and back, its order, and the range of an offset.
use mathlib.Core.Path.{◌≡◌, refl, sym}
use mathlib.Core.Bool.{Bool, true, false, ◌&&◌}
use Prim.Native.Nat.{ℕ, suc, ◌-◌, ◌^◌, ◌<◌}
use native.Mathlib.Omega.{arith}
use borrow.Author.Tests.{lt-ltb, le-ltb, le-leb, lt-leb, ltb-true, ltb-false}
use lib.Dec.{ltb, leb}
use lib.IntN.{ℤ, pos, negsuc, neg_ℤ}
use lib.Signed.{lt_z, le_z}
use Rattle.base_lists.proofs.Below.{same_test}
use Rattle.day_rows.specs.Op.{signed_of, extra_of}

-- a signed number by its sign: below the bias it is negative
abbrev signed_by : Bool → ℕ → ℤ
signed_by true n = negsuc (32768 - suc n)
signed_by false n = pos (n - 32768)

signed_is : (a : ℕ) (p : Bool) → ltb a 32768 ≡ p → signed_of a ≡ signed_by p a
unfolding signed_of
signed_is a true e = rw e
signed_is a false e = rw e

-- an extra column stands for one signed number, which gives it back
pub extra_of_signed : (a : ℕ) → extra_of (signed_of a) ≡ a
extra_of_signed a = by (ltb a 32768) refl
  where
    by : (p : Bool) → ltb a 32768 ≡ p → extra_of (signed_of a) ≡ a
    by true e = let h = ltb-true a 32768 e in rw (signed_is a true e) (omega arith)
    by false e = let h = ltb-false a 32768 e in rw (signed_is a false e) (omega arith)

signed_cases : (a b : ℕ) (p : Bool) → ltb a 32768 ≡ p → (q : Bool) → ltb b 32768 ≡ q → lt_z (signed_by p a) (signed_by q b) ≡ ltb a b
signed_cases a b true e true f = let h = ltb-true a 32768 e in let k = ltb-true b 32768 f in same_test (32768 - suc b) (32768 - suc a) a b (λ l. omega arith) (λ l. omega arith)
signed_cases a b true e false f = sym (lt-ltb a b (omega (arith, ltb-true a 32768 e, ltb-false b 32768 f)))
signed_cases a b false e true f = sym (le-ltb a b (omega (arith, ltb-false a 32768 e, ltb-true b 32768 f)))
signed_cases a b false e false f = let h = ltb-false a 32768 e in let k = ltb-false b 32768 f in same_test (a - 32768) (b - 32768) a b (λ l. omega arith) (λ l. omega arith)

-- the bias keeps the order of the signed numbers
pub signed_order : (a b : ℕ) → lt_z (signed_of a) (signed_of b) ≡ ltb a b
signed_order a b =
    rw (signed_is a (ltb a 32768) refl, signed_is b (ltb b 32768) refl) (signed_cases a b (ltb a 32768) refl (ltb b 32768) refl)

-- of the columns of sixteen bits, every one but 0 stands for an offset -32,767..32,767
pub offset-range : (a : ℕ) → a < 2 ^ 16 → ltb 0 a ≡ (le_z (neg_ℤ (pos 32767)) (signed_of a) && le_z (signed_of a) (pos 32767))
offset-range a h = by (ltb a 32768) refl
  where
    by : (p : Bool) → ltb a 32768 ≡ p → ltb 0 a ≡ (le_z (neg_ℤ (pos 32767)) (signed_of a) && le_z (signed_of a) (pos 32767))
    by true e = let l = ltb-true a 32768 e in rw (signed_is a true e) (low (ltb 0 a) refl)
      where
        low : (t : Bool) → ltb 0 a ≡ t → t ≡ (leb (32768 - suc a) 32766 && true)
        low true t = let m = ltb-true 0 a t in rw (le-leb (32768 - suc a) 32766 (omega arith))
        low false t = let m = ltb-false 0 a t in rw (lt-leb (32768 - suc a) 32766 (omega arith))
    by false e = let l = ltb-false a 32768 e in rw (signed_is a false e, le-leb (a - 32768) 32767 (omega arith), lt-ltb 0 a (omega arith))
