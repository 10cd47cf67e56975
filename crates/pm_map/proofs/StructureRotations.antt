-- Each structure is the same as that of a rotation and a root: its edges are numbered by their first darts.
use Rattle.std.proofs.Common.{◌≡◌, ℕ, ◌<◌, List, length, map, slice_index, refl, sym, ap, ◌∙◌, subst, arith}
use Rattle.std.specs.List.{range_with_len}
use Rattle.std.proofs.lemmas.List.FromFn.{get_or-map-range_with_len, length-map-range_with_len}
use Rattle.pm_perm.specs.Permutation.{IsPermutationBelow}
use Rattle.pm_perm.proofs.InverseLemmas.{place_of, place_of-of_value}
use Rattle.pm_map.specs.Structure.{Structure, IsStructure, CarriesTo}
use Rattle.pm_map.specs.Rotation.{RotationSystem, structure_of}
use Rattle.pm_map.specs.SameLaws.{EachStructureIsARotation}
use Rattle.pm_map.specs.EdgeNumbers.{IsTwinning, dart_of}
use Rattle.pm_map.proofs.NumberedEdges.{dart_of_permutes, dart_of-twin}
use Rattle.pm_map.proofs.CarriedStructure.{structure_carried}

-- f of each number below n
listed : (ℕ → ℕ) → ℕ → List ℕ
listed f n = map f (range_with_len 0 n)

length-listed : (f : ℕ → ℕ) (n : ℕ) → length (listed f n) ≡ n
unfolding listed
length-listed f n = length-map-range_with_len f 0 n

listed_at : (f : ℕ → ℕ) (n k : ℕ) → k < n → slice_index (listed f n) k ≡ f k
unfolding listed
listed_at f n k within = get_or-map-range_with_len f 0 n k k 0 within (omega arith)

-- the dart after a dart, where both have their numbers
next_numbered : Structure → ℕ → ℕ
next_numbered s d = dart_of s.twin (s.next (place_of (dart_of s.twin) s.darts d))

-- the rotation, and the root, which is 0 where there is no dart
numbered : Structure → RotationSystem
numbered s = record { sigma = listed (next_numbered s) s.darts; root = slice_index (listed (dart_of s.twin) s.darts) s.root }

twins_are : (s : Structure) → IsStructure s → IsTwinning s.darts s.twin
twins_are s structure = record { stays = structure.twin_stays; back = structure.twin_back; other = structure.twin_other }

next_is : (s : Structure) (d : ℕ) → IsStructure s → d < s.darts → dart_of s.twin (s.next d) ≡ slice_index (listed (next_numbered s) s.darts) (dart_of s.twin d)
unfolding next_numbered
next_is s d structure h =
    let permutes : IsPermutationBelow s.darts (dart_of s.twin) = dart_of_permutes s.darts s.twin (twins_are s structure) in
    sym (listed_at (next_numbered s) s.darts (dart_of s.twin d) (permutes.stays d h) ∙ ap (λ q. dart_of s.twin (s.next q)) (place_of-of_value (dart_of s.twin) s.darts d permutes h))

numbered_carries : (s : Structure) → IsStructure s → CarriesTo (dart_of s.twin) s (structure_of (numbered s))
unfolding numbered
numbered_carries s structure = record {
  darts = sym (length-listed (next_numbered s) s.darts);
  renumbers = dart_of_permutes s.darts s.twin (twins_are s structure);
  next = λ d h. next_is s d structure h;
  twin = λ d h. dart_of-twin s.darts s.twin (twins_are s structure) d h;
  root = λ some. sym (listed_at (dart_of s.twin) s.darts s.root (structure.root_stays some));
}

-- no entry of no dart
root_none : (f : ℕ → ℕ) (n root : ℕ) → n ≡ 0 → slice_index (listed f n) root ≡ 0
unfolding listed
root_none f n root none = subst (λ (k : ℕ). slice_index (map f (range_with_len 0 k)) root ≡ 0) (sym none) refl

numbered_root : (s : Structure) → length (numbered s).sigma ≡ 0 → (numbered s).root ≡ 0
unfolding numbered
numbered_root s none = root_none (dart_of s.twin) s.darts s.root (sym (length-listed (next_numbered s) s.darts) ∙ none)

pub each_structure_is_a_rotation : EachStructureIsARotation
each_structure_is_a_rotation s structure =
    let carries : CarriesTo (dart_of s.twin) s (structure_of (numbered s)) = numbered_carries s structure in
    (numbered s, structure_carried (dart_of s.twin) s (structure_of (numbered s)) structure carries (numbered_root s), (dart_of s.twin, carries))
