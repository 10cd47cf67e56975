-- What valid choices give: a simple triangulation of the size, and a valid residue.
use Rattle.std.proofs.Common.{◌≡◌, ℕ, suc, ◌+◌, ◌*◌, ◌<◌, List, [], ◌∷◌, ◌++◌, length, length-append, take, ap, sym, subst, arith}
use Rattle.std.specs.Prelude.{slice_index}
use Rattle.std.proofs.lemmas.List.{get_or-drop}
use Rattle.pm_lists.specs.Valid.{IsValidList}
use Rattle.pm_map.specs.Canonical.{IsCanonicalOf}
use Rattle.pm_map.specs.Classes.{IsTriangulation}
use Rattle.pm_map.specs.Rotation.{RotationSystem, structure_of}
use Rattle.pm_map.proofs.UniqueCanonical.{canonical_map_is_rooted}
use Rattle.pm_canon.proofs.ExistenceLemmas.{canonical_map_exists}
use Rattle.pm_class.specs.Sampling.{IsSampled, IsSampledUnnamed}
use Rattle.pm_objects.specs.Codes.{code_bounds}
use Rattle.pm_objects.proofs.CodeBounds.{length-code_bounds, valid_push}
use Rattle.pm_objects.proofs.RangeCodes.{IsCodeOfLength, code_from_valid, valid_parts}
use Rattle.pm_tri.specs.Bounds.{tri_choices, tri_residues}
use Rattle.pm_tri.specs.StemTree.{IsStemTree, contour, nodes}
use Rattle.pm_tri.specs.Triangulations.{IsTriSize}
use Rattle.pm_triclose.proofs.RenamedClosures.{closures_renamed}
use Rattle.pm_triclose.proofs.SimpleClosures.{closures_triangulations}
use Rattle.pm_trisample.specs.Closed.{IsClosedAnew}
use Rattle.pm_trisample.specs.Made.{MakesTree}
use Rattle.pm_trisample.specs.Samples.{IsTriSample, objects_of_size}
use Rattle.pm_trisample.specs.Triangulated.{IsTriangulated}
use Rattle.pm_trisample.proofs.RunPlanting.{anew_alike, anew_balances, old_plant_few}
use Rattle.pm_trisample.proofs.TriObjects.{made_nodes, made_rest_is_valid, tri_rests}

-- the parts of a valid list of choices
pub record AreTriParts (n : ℕ) (choices : List ℕ) : Type 0 where
  pub long : length choices ≡ objects_of_size n + 2
  pub coded : IsCodeOfLength (objects_of_size n) (take (objects_of_size n) choices)
  pub start_low : slice_index choices (objects_of_size n) < 2
  pub run_low : slice_index choices (suc (objects_of_size n)) < 2

pub tri_parts : (n : ℕ) (choices : List ℕ) → IsValidList choices (tri_choices n) → AreTriParts n choices
tri_parts n choices valid =
    let m : ℕ = objects_of_size n in
    let parts = valid_parts m choices (code_bounds m) (2 ∷ 2 ∷ []) (length-code_bounds m) valid in
    let behind = parts.1.as_long in
    let first = parts.1.below 0 (omega (arith, behind)) in
    let second = parts.1.below 1 (omega (arith, behind)) in
    let e : m + 0 ≡ m = omega arith in
    let f : m + 1 ≡ suc m = omega arith in
    record {
      long = (let all = valid.as_long in omega (arith, all, length-append (code_bounds m) (2 ∷ 2 ∷ []), length-code_bounds m));
      coded = code_from_valid m (take m choices) parts.0;
      start_low = omega (arith, first, get_or-drop m choices 0 0, ap (slice_index choices) e);
      run_low = omega (arith, second, get_or-drop m choices 1 0, ap (slice_index choices) f);
    }

-- a closure is a simple triangulation, with as many inner vertices as the tree has nodes
pub closed_is_triangulated : (word : List ℕ) (run : ℕ) (map : RotationSystem) (old_plant : ℕ) → IsStemTree word → IsClosedAnew word run map old_plant → IsTriangulated (nodes word) map
closed_is_triangulated word run map old_plant tree c =
    let alike = anew_alike word run c.turned old_plant tree c.is_anew in
    subst (IsTriangulation (structure_of map)) alike.nodes_are
    (closures_triangulations c.turned (structure_of map) alike.stem_tree (anew_balances word run c.turned old_plant tree c.is_anew) c.is_closure)

-- with the canonical names of its darts it is one too
pub closed_canonically : (word : List ℕ) (run : ℕ) (map canonical : RotationSystem) (old_plant : ℕ) → IsClosedAnew word run map old_plant → IsCanonicalOf map canonical → IsClosedAnew word run canonical old_plant
closed_canonically word run map canonical old_plant c named = record {
  rooted = canonical_map_is_rooted map canonical c.rooted named;
  turned = c.turned;
  is_anew = c.is_anew;
  is_closure = closures_renamed (contour c.turned) (structure_of map) (structure_of canonical) named.is_same c.is_closure;
}

pub sample_is_sampled : (n : ℕ) (choices : List ℕ) (map : RotationSystem) (residue : List ℕ) → IsTriSize n → IsTriSample n choices map residue
    → IsSampled (tri_choices n) (tri_residues n) (IsTriangulated n) (IsTriSample n choices) choices (record { map = map; residue = residue })
sample_is_sampled n choices map residue size s =
    let long = (tri_parts n choices s.valid).coded.long in
    let tree = s.is_made.is_tree.tree in
    let counted : nodes s.word ≡ n = made_nodes n (take (objects_of_size n) choices) (slice_index choices (objects_of_size n)) s.word s.rest size long s.is_made in
    let low = old_plant_few s.word (slice_index choices (suc (objects_of_size n))) s.is_closed.turned s.old_plant tree s.is_closed.is_anew in
    record {
      valid = s.valid;
      given = s;
      rooted = s.is_closed.rooted;
      canonical = s.canonical;
      in_class = subst (λ (k : ℕ). IsTriangulated k map) counted (closed_is_triangulated s.word (slice_index choices (suc (objects_of_size n))) map s.old_plant tree s.is_closed);
      valid_residue = subst (λ (r : List ℕ). IsValidList r (tri_residues n)) (sym s.residue_is)
          (valid_push s.rest (tri_rests n) s.old_plant (2 * n) (made_rest_is_valid n (take (objects_of_size n) choices) (slice_index choices (objects_of_size n)) s.word s.rest size long s.is_made) (omega (arith, low, counted)));
    }

-- what is made, planted anew and closed is sampled, by way of its canonical map
pub unnamed_is_sampled : (n : ℕ) (choices : List ℕ) (map : RotationSystem) (residue word rest : List ℕ) (old_plant run : ℕ) → IsTriSize n → IsValidList choices (tri_choices n)
    → MakesTree n (take (objects_of_size n) choices) (slice_index choices (objects_of_size n)) word rest → run ≡ slice_index choices (suc (objects_of_size n)) → IsClosedAnew word run map old_plant → residue ≡ rest ++ old_plant ∷ []
    → IsSampledUnnamed (tri_choices n) (tri_residues n) (IsTriangulated n) (IsTriSample n choices) choices (record { map = map; residue = residue })
unnamed_is_sampled n choices map residue word rest old_plant run size valid made run_is closed told =
    let named : (canonical : RotationSystem) × IsCanonicalOf map canonical = canonical_map_exists map closed.rooted in
    record {
      rooted = closed.rooted;
      canonical = named.0;
      is_canonical = named.1;
      sampled = sample_is_sampled n choices named.0 residue size (record {
        valid = valid;
        word = word;
        rest = rest;
        is_made = made;
        old_plant = old_plant;
        is_closed = subst (λ (r : ℕ). IsClosedAnew word r named.0 old_plant) run_is (closed_canonically word run map named.0 old_plant closed named.1);
        canonical = named.1.is_canonical;
        residue_is = told;
      });
    }
