-- What the analysis writes into its pools is what a level's list reads from them.
use mathlib.Core.Path.{◌≡◌, refl, ◌∙◌, ap₂}
use mathlib.Core.List.{List, map}
use Prim.Native.Nat.{ℕ, ◌-◌, ◌<◌}
use lib.ListN.{length, get_or, replicate, length-map, get_or-append, get_or-map}
use Rattle.base_lists.specs.Pool.{pad}
use Rattle.base_lists.proofs.Flat.{list_ext, list_back}
use Rattle.sets_analysis.specs.Kept.{CriticalSet, critical_set, no_set}
use Rattle.sets_analysis.specs.Calls.{filled, sets_in}

-- an entry of a padded list of what the function gives for each set
pad-at : (f : CriticalSet → ℕ) (sets : List CriticalSet) (i : ℕ) → f no_set ≡ 0 → i < length sets → get_or (pad 1024 (map f sets)) i 0 ≡ f (get_or sets i no_set)
unfolding pad
pad-at f sets i z h =
    get_or-append (map f sets) (replicate (1024 - length (map f sets)) 0) 0 i (rw length-map h)
    ∙ (rw z at (get_or-map f sets i no_set))

-- the first sets of the pools that hold a list of sets are that list
pub sets-back : (sets : List CriticalSet) → sets_in (length sets) (filled sets).masks (filled sets).levels ≡ sets
unfolding sets_in filled
sets-back sets =
    list_ext (length sets)
    (λ i. critical_set (get_or (pad 1024 (map (λ (s : CriticalSet). s.level) sets)) i 0) (get_or (pad 1024 (map (λ (s : CriticalSet). s.members) sets)) i 0))
    (λ i. get_or sets i no_set)
    (λ i h. ap₂ (λ (level members : ℕ). critical_set level members) (pad-at (λ (s : CriticalSet). s.level) sets i refl h) (pad-at (λ (s : CriticalSet). s.members) sets i refl h))
    ∙ list_back sets (length sets) no_set refl
