-- The numbers of a census add up to the number of its lists.
use Rattle.std.proofs.Common.{◌≡◌, ℕ, ◌+◌, Bool, true, false, if◌then◌else◌, List, [], ◌∷◌, fold, length, ap, ◌∙◌, arith}
use Rattle.std.specs.List.{sum}
use Rattle.std.specs.Map.{values_of}
use Rattle.std.proofs.lemmas.List.Sums.{sum_by-cons}
use Rattle.pm_map.specs.Rotation.{RotationSystem}
use Rattle.pm_reach.specs.Census.{IsCensus, is_same_map, product, raised, valid_lists}
use Rattle.pm_reach.proofs.CountedLists.{as_many}
use Rattle.pm_reach.proofs.ListWalk.{length-valid_lists}

sum-cons : (number : ℕ) (numbers : List ℕ) → sum (number ∷ numbers) ≡ number + sum numbers
sum-cons number numbers = sum_by-cons (λ (n : ℕ). n) number numbers

-- one map more
sum-raised : (map : RotationSystem) (entries : List (RotationSystem × ℕ)) → sum (values_of (raised map entries)) ≡ sum (values_of entries) + 1
sum-raised map [] = omega arith
sum-raised map (entry ∷ entries) = by (is_same_map map entry.0) (sum-raised map entries)
  where
    by : (b : Bool) → sum (values_of (raised map entries)) ≡ sum (values_of entries) + 1
        → sum (values_of (if b then (entry.0, entry.1 + 1) ∷ entries else entry ∷ raised map entries)) ≡ sum (values_of (entry ∷ entries)) + 1
    by true rest = omega (arith, sum-cons (entry.1 + 1) (values_of entries), sum-cons entry.1 (values_of entries))
    by false rest = omega (arith, rest, sum-cons entry.1 (values_of (raised map entries)), sum-cons entry.1 (values_of entries))

sum-after : (maps : List RotationSystem) (entries : List (RotationSystem × ℕ))
    → sum (values_of (fold (λ entries map. raised map entries) entries maps)) ≡ sum (values_of entries) + length maps
sum-after [] entries = omega arith
sum-after (map ∷ maps) entries = omega (arith, sum-after maps (raised map entries), sum-raised map entries)

-- the numbers of a census add up to the product of the bounds
pub sum_is_product : (bounds : List ℕ) (samples : List ℕ → RotationSystem → List ℕ → Type 0) (entries : List (RotationSystem × ℕ))
    → IsCensus bounds samples entries → sum (values_of entries) ≡ product bounds
sum_is_product bounds samples entries c =
    omega (arith, ap (λ es. sum (values_of es)) c.counted, sum-after c.maps [], as_many samples (valid_lists bounds) c.maps c.given, length-valid_lists bounds)
