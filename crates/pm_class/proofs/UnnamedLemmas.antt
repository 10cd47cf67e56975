-- Samples whose maps have any names of darts, and their canonical maps.
use Rattle.std.proofs.Common.{ℕ, List, subst}
use Rattle.pm_map.specs.Rotation.{RotationSystem, structure_of}
use Rattle.pm_map.specs.Canonical.{IsCanonicalOf}
use Rattle.pm_map.proofs.SameMaps.{same_as_itself, same_symmetric}
use Rattle.pm_map.proofs.UniqueCanonical.{canonical_map_is_unique}
use Rattle.pm_lists.specs.declared.num_list.NumList.{NumList}
use Rattle.pm_class.specs.ClassLaws.{IsKeptByRenumbering}
use Rattle.pm_class.specs.Sampling.{IsSampled, IsSampledUnnamed}
use Rattle.pm_class.specs.declared.sample.Sample.{Sample}

-- a map of any names is of the class as its canonical map is
pub unnamed_in_class : (bounds residues : List ℕ) (has : RotationSystem → Type 0) (samples : RotationSystem → List ℕ → Type 0) (choices : List ℕ) (sample : Sample) → IsKeptByRenumbering has
    → IsSampledUnnamed bounds residues has samples choices sample → has sample.map
unnamed_in_class bounds residues has samples choices sample kept s =
    kept s.canonical sample.map s.sampled.rooted s.rooted (same_symmetric (structure_of sample.map) (structure_of s.canonical) s.rooted.structure s.is_canonical.is_same) s.sampled.in_class

-- with its canonical names it is sampled
pub named_is_sampled : (bounds residues : List ℕ) (has : RotationSystem → Type 0) (samples : RotationSystem → List ℕ → Type 0) (choices : List ℕ) (sample : Sample) (map : RotationSystem)
    → IsSampledUnnamed bounds residues has samples choices sample → IsCanonicalOf sample.map map → IsSampled bounds residues has samples choices (record { map = map; residue = sample.residue })
named_is_sampled bounds residues has samples choices sample map s is =
    subst (λ (m : RotationSystem). IsSampled bounds residues has samples choices (record { map = m; residue = sample.residue }))
    (canonical_map_is_unique sample.map s.canonical map s.rooted s.is_canonical is) s.sampled

-- what is sampled is so with any names too
pub sampled_is_unnamed : (bounds residues : List ℕ) (has : RotationSystem → Type 0) (samples : RotationSystem → List ℕ → Type 0) (choices : List ℕ) (map : RotationSystem) (residue : NumList)
    → IsSampled bounds residues has samples choices (record { map = map; residue = residue }) → IsSampledUnnamed bounds residues has samples choices (record { map = map; residue = residue })
sampled_is_unnamed bounds residues has samples choices map residue s = record {
  rooted = s.rooted;
  canonical = map;
  is_canonical = record { is_canonical = s.canonical; is_same = same_as_itself (structure_of map) };
  sampled = s;
}
