-- Texts of samples whose maps have any names of darts.
use Rattle.std.proofs.Common.{◌≡◌, ℕ, ◌/◌, ◌∷◌, ◌++◌, [], List, ap, ◌∙◌, subst}
use Rattle.std.specs.Prelude.{codes, decimal}
use Rattle.pm_text.specs.Broken.{newline}
use Rattle.pm_map.specs.Structure.{Same}
use Rattle.pm_map.specs.Rotation.{RotationSystem, structure_of, IsRootedMap}
use Rattle.pm_map.proofs.CarriedStructure.{vertices_carried, faces_carried}
use Rattle.pm_map.proofs.UniqueCanonical.{canonical_map_is_unique}
use Rattle.pm_class.specs.Sampling.{IsSampledUnnamed}
use Rattle.pm_class.specs.declared.sample.Sample.{Sample}
use Rattle.pm_cli.specs.MapAnswers.{counts_line}
use Rattle.pm_cli.specs.Sampling.{IsTextOfSample, IsSampleText}
use Rattle.pm_cli.specs.Trip.{first_drawn, IsTrip}
use Rattle.pm_cli.specs.steps.Unnamed.{IsTextOfUnnamed}

-- the text of what the choices give
pub unnamed_text : (bounds residues : List ℕ) (has : RotationSystem → Type 0) (samples : List ℕ → RotationSystem → List ℕ → Type 0) (choices : List ℕ) (sample : Sample) (text : List ℕ)
    → IsSampledUnnamed bounds residues has (samples choices) choices sample → IsTextOfUnnamed sample.map sample.residue text → IsSampleText samples choices text
unnamed_text bounds residues has samples choices sample text s t = record {
  map = s.canonical;
  residue = sample.residue;
  sampled = s.sampled.given;
  is_text = subst (λ (m : RotationSystem). IsTextOfSample m sample.residue text) (canonical_map_is_unique sample.map t.canonical s.canonical s.rooted t.is_canonical s.is_canonical) t.is_text;
}

-- maps that are the same have the same counts
pub counts_alike : (map other : RotationSystem) → IsRootedMap map → IsRootedMap other → Same (structure_of map) (structure_of other) → counts_line map ≡ counts_line other
counts_alike map other rooted also same =
    by_counts (vertices_carried same.0 (structure_of map) (structure_of other) rooted.structure also.structure same.1) (ap (λ (n : ℕ). n / 2) same.1.darts)
    (faces_carried same.0 (structure_of map) (structure_of other) rooted.structure also.structure same.1) where
      line : ℕ → ℕ → ℕ → List ℕ
      line v e f = codes "ok " ++ decimal v ++ codes " " ++ decimal e ++ codes " " ++ decimal f ++ newline ∷ []

      by_counts : {v w e d f g : ℕ} → v ≡ w → e ≡ d → f ≡ g → line v e f ≡ line w d g
      by_counts vs es fs = cc

-- the text of a trip by what the first list gives
pub trip_made : (bounds residues : List ℕ) (has : RotationSystem → Type 0) (samples : List ℕ → RotationSystem → List ℕ → Type 0) (seed : ℕ) (choices : List ℕ) (sample : Sample) (text : List ℕ)
    → choices ≡ first_drawn bounds seed → IsSampledUnnamed bounds residues has (samples choices) choices sample → text ≡ codes "trip " ++ counts_line sample.map → IsTrip bounds samples seed text
trip_made bounds residues has samples seed choices sample text same s is = record {
  map = s.canonical;
  residue = sample.residue;
  sampled = subst (λ (list : List ℕ). samples list s.canonical sample.residue) same s.sampled.given;
  is_text = is ∙ ap (λ (line : List ℕ). codes "trip " ++ line) (counts_alike sample.map s.canonical s.rooted s.sampled.rooted s.is_canonical.is_same);
}
