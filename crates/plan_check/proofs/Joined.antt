-- Two lists of rules joined (02, request 11): a plan keeps them exactly if it keeps each, in either order.
use mathlib.Core.Path.{◌≡◌, sym, ◌∙◌}
use mathlib.Core.Bool.{◌&&◌, and_comm, and_self}
use mathlib.Core.List.{List, ◌++◌}
use Prim.Native.Nat.{ℕ}
use Rattle.base_lists.proofs.All.{all_append}
use Rattle.day_rows.specs.Row.{row_of}
use Rattle.plan_check.specs.Rows.{keeps_row, keeps_rows}

module _ (plan : List ℕ) where
  -- 'a plan keeps the joined list exactly when it keeps each'
  pub joined : (xs ys : List ℕ) → keeps_rows plan (xs ++ ys) ≡ (keeps_rows plan xs && keeps_rows plan ys)
  unfolding keeps_rows
  joined xs ys = all_append (λ number. keeps_row plan (row_of number)) xs ys

  -- 'in either order'
  pub joined-either-order : (xs ys : List ℕ) → keeps_rows plan (xs ++ ys) ≡ keeps_rows plan (ys ++ xs)
  joined-either-order xs ys = joined xs ys ∙ and_comm (keeps_rows plan xs) (keeps_rows plan ys) ∙ sym (joined ys xs)

  -- rows given again change nothing
  pub joined_again : (xs : List ℕ) → keeps_rows plan (xs ++ xs) ≡ keeps_rows plan xs
  joined_again xs = joined xs xs ∙ and_self (keeps_rows plan xs)
