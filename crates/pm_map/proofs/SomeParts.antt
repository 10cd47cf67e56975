-- No rotation and root are without an answer.
use Rattle.std.proofs.Common.{◌≡◌, ℕ, ◌+◌, ◌*◌, ◌%◌, ◌<◌, ◌≤◌, List, length, inl, inr, refl}
use Rattle.std.specs.Prelude.{ℤ}
use Rattle.std.proofs.lemmas.Bool.{cases_Bool, cases_eq}
use Rattle.pm_limits.specs.declared.TheConstants.{MAX_EDGES}
use Rattle.pm_perm.specs.Permutation.{IsPermutationList}
use Rattle.pm_perm.proofs.LeastCases.{all_or_least}
use Rattle.pm_map.specs.Structure.{Structure, IsConnected}
use Rattle.pm_map.specs.Plane.{vertices, faces, edges, euler_characteristic}
use Rattle.pm_map.specs.Reached.{IsReached}
use Rattle.pm_map.specs.Rotation.{structure_of, IsRootedMap}
use Rattle.pm_map.specs.Parts.{IsNotConnected, HasGenus}
use Rattle.pm_map.proofs.TwinLemmas.{structure_of_parts}

-- a permutation of an even number of darts within the limit, and a root among them, make a map, or aren't connected, or
-- have another Euler characteristic
pub some_map_answer : (sigma : List ℕ) (root : ℕ) → length sigma % 2 ≡ 0 → length sigma ≤ 2 * MAX_EDGES → IsPermutationList sigma → (0 < length sigma → root < length sigma)
    → (length sigma ≡ 0 → root ≡ 0) → (IsRootedMap (record { sigma = sigma; root = root }) → ⊥) → ((dart : ℕ) → IsNotConnected sigma root dart → ⊥)
    → ((euler : ℤ) → HasGenus sigma root euler → ⊥) → ⊥
some_map_answer sigma root even few permutes stays none is_rooted apart genus =
    all_or_least (IsReached s) s.darts (λ all. joined (λ holds start closed d h. all d h holds start closed))
    (λ dart is. is.breaks (λ holds start closed. inside dart is.within is.least holds start closed)) where
      s : Structure
      s = structure_of (record { sigma = sigma; root = root })

      joined : IsConnected s → ⊥
      joined connected =
          elim (cases_eq (vertices s + faces s) (edges s + 2)) [
            | inl two ↦ is_rooted (record { even = even; few = few; structure = structure_of_parts sigma root even permutes stays none; connected = connected; euler = two })
            | inr other ↦ genus (euler_characteristic s) (record { few = few; permutes = permutes; connected = connected; number = refl; other = other })
          ]

      inside : (dart : ℕ) → dart < s.darts → ((k : ℕ) → k < dart → IsReached s k) → IsReached s dart
      inside dart within least holds start closed =
          elim (cases_Bool (holds dart)) [
            | inl there ↦ there
            | inr outside ↦
                absurd (apart dart (record {
                  few = few;
                  permutes = permutes;
                  unreached = record { within = within; breaks = record { holds = holds; root = start; closed = closed; apart = outside }; least = least };
                }))
          ]
