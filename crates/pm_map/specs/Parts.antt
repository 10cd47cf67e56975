-- What making a map of a rotation and a root answers.
use Rattle.std.specs.Prelude.{◌≡◌, ℕ, ◌*◌, ◌<◌, ◌≤◌, List, length, Result, Ok, Err, ⊤, ℤ}
use Rattle.pm_limits.specs.declared.TheConstants.{MAX_EDGES}
use Rattle.pm_perm.specs.Permutation.{IsPermutationList}
use Rattle.pm_map.specs.declared.rooted_map.RootedMap.{RootedMap}
use Rattle.pm_map.specs.declared.refusal.MapRefusal.{MapRefusal}
use Rattle.pm_map.specs.declared.refusal.MapRefusal.TheVariants.{Memory, TooMany, NotPermutation, NotConnected, Genus}
use Rattle.pm_map.specs.Missing.{IsLeastMissing}
use Rattle.pm_map.specs.Reached.{IsLeastUnreached}
use Rattle.pm_map.specs.Structure.{IsConnected}
use Rattle.pm_map.specs.Plane.{HasEulerTwo, euler_characteristic}
use Rattle.pm_map.specs.Rotation.{structure_of, IsRootedMap}

-- more edges than a map may have, and how many
pub record HasTooMany (sigma : List ℕ) (edges : ℕ) : Type 0 where
  pub counted : 2 * edges ≡ length sigma
  pub many : MAX_EDGES < edges

-- the least number that the rotation leaves out
pub record IsNoPermutation (sigma : List ℕ) (dart : ℕ) : Type 0 where
  pub few : length sigma ≤ 2 * MAX_EDGES
  pub missing : IsLeastMissing sigma dart

-- the least dart that the root doesn't reach, where the rotation is a permutation
pub record IsNotConnected (sigma : List ℕ) (root dart : ℕ) : Type 0 where
  pub few : length sigma ≤ 2 * MAX_EDGES
  pub permutes : IsPermutationList sigma
  pub unreached : IsLeastUnreached (structure_of (record { sigma = sigma; root = root })) dart

-- The Euler characteristic, where the rotation is a permutation and the map connected, and that number isn't 2
pub record HasGenus (sigma : List ℕ) (root : ℕ) (euler : ℤ) : Type 0 where
  pub few : length sigma ≤ 2 * MAX_EDGES
  pub permutes : IsPermutationList sigma
  pub connected : IsConnected (structure_of (record { sigma = sigma; root = root }))
  pub number : euler ≡ euler_characteristic (structure_of (record { sigma = sigma; root = root }))
  pub other : HasEulerTwo (structure_of (record { sigma = sigma; root = root })) → ⊥

-- The answer to a rotation and a root: the map, or the first rule that they break. Want of memory may come at any.
abbrev pub IsMapAnswer : List ℕ → ℕ → Result RootedMap MapRefusal → Type 0
IsMapAnswer sigma root (Ok map) = (map ≡ record { sigma = sigma; root = root }) × IsRootedMap (record { sigma = sigma; root = root })
IsMapAnswer sigma root (Err (TooMany edges)) = HasTooMany sigma edges
IsMapAnswer sigma root (Err (NotPermutation dart)) = IsNoPermutation sigma dart
IsMapAnswer sigma root (Err (NotConnected dart)) = IsNotConnected sigma root dart
IsMapAnswer sigma root (Err (Genus euler)) = HasGenus sigma root euler
IsMapAnswer sigma root (Err Memory) = ⊤

-- A rotation and a root have one answer, but for want of memory: so each refusal comes exactly where its rule is the
-- first that fails.
abbrev pub HasOneMapAnswer : Type 0
HasOneMapAnswer =
    (sigma : List ℕ) (root : ℕ) (first second : Result RootedMap MapRefusal) → IsMapAnswer sigma root first → IsMapAnswer sigma root second
    → (first ≡ Err Memory → ⊥) → (second ≡ Err Memory → ⊥) → first ≡ second
