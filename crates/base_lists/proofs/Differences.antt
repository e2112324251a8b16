-- Differences of numbers as signed numbers: equal exactly if the crosswise sums are.
use mathlib.Core.Path.{◌≡◌, refl, sym, ◌∙◌, ap}
use mathlib.Core.Bool.{Bool, true, false}
use Prim.Native.Nat.{ℕ, zero, suc, ◌+◌, ◌-◌, ◌≤◌, ◌<◌}
use native.Mathlib.Omega.{arith}
use borrow.Author.Tests.{lt-ltb, le-ltb, ltb-true, ltb-false}
use lib.Dec.{ltb}
use lib.IntN.{pos, negsuc, sub_ℕ, ◌-ℤ◌, pos-ne-negsuc}

-- the difference of two numbers
pub minus_is : (a b : ℕ) → pos a -ℤ pos b ≡ sub_ℕ a b
minus_is a zero = let e : a + 0 ≡ a - 0 = omega arith in rw (le-ltb a 0 (omega arith), e)
minus_is a (suc b) = refl

sub-less : (a b : ℕ) → ltb a b ≡ true → sub_ℕ a b ≡ negsuc (b - suc a)
sub-less a b h = rw h

sub-rest : (a b : ℕ) → ltb a b ≡ false → sub_ℕ a b ≡ pos (a - b)
sub-rest a b h = rw h

module _ (a b c d : ℕ) where
  pub cross_same : a + d ≡ c + b → sub_ℕ a b ≡ sub_ℕ c d
  cross_same e = go (ltb a b) refl
    where
      go : (t : Bool) → ltb a b ≡ t → sub_ℕ a b ≡ sub_ℕ c d
      go true t =
          let h : a < b = ltb-true a b t in
          sub-less a b t ∙ ap negsuc (omega arith) ∙ sym (sub-less c d (lt-ltb c d (omega arith)))
      go false t =
          let h : b ≤ a = ltb-false a b t in
          sub-rest a b t ∙ ap pos (omega arith) ∙ sym (sub-rest c d (le-ltb c d (omega arith)))

  pub same_cross : sub_ℕ a b ≡ sub_ℕ c d → a + d ≡ c + b
  same_cross e = go (ltb a b) (ltb c d) refl refl
    where
      go : (s t : Bool) → ltb a b ≡ s → ltb c d ≡ t → a + d ≡ c + b
      go true true s t =
          let h : a < b = ltb-true a b s in
          let k : c < d = ltb-true c d t in
          let z : negsuc (b - suc a) ≡ negsuc (d - suc c) = sym (sub-less a b s) ∙ e ∙ sub-less c d t in
          let q : b - suc a ≡ d - suc c = cc in
          omega arith
      go true false s t = absurd (pos-ne-negsuc (c - d) (b - suc a) (sym (sub-rest c d t) ∙ sym e ∙ sub-less a b s))
      go false true s t = absurd (pos-ne-negsuc (a - b) (d - suc c) (sym (sub-rest a b s) ∙ e ∙ sub-less c d t))
      go false false s t =
          let h : b ≤ a = ltb-false a b s in
          let k : d ≤ c = ltb-false c d t in
          let z : pos (a - b) ≡ pos (c - d) = sym (sub-rest a b s) ∙ e ∙ sub-rest c d t in
          let q : a - b ≡ c - d = cc in
          omega arith
