-- The laws of quartic maps as a class.
use Rattle.std.proofs.Common.{ℕ, ◌+◌, ◌*◌, ◌/◌, ◌≤◌, arith, ◌∷◌}
use Rattle.pm_euler.proofs.QuarticMade.{quartic_profile, quartic_makes, quartic_joins}
use Rattle.pm_euler.proofs.TreeSamples.{IsTreeClass, tree_one_to_one}
use Rattle.std.proofs.lemmas.List.Elements.{All-cons}
use Rattle.pm_limits.specs.declared.TheConstants.{MAX_EDGES}
use Rattle.pm_map.specs.Rotation.{structure_of}
use Rattle.pm_map.specs.Classes.{IsQuartic}
use Rattle.pm_map.proofs.ClassesKept.{quartic_kept}
use Rattle.pm_class.specs.ClassLaws.{IsKeptByRenumbering, AreLimits, HasMostEdges}
use Rattle.pm_class.specs.OneToOne.{AreOneToOne}
use Rattle.pm_objects.specs.Codes.{code_bounds}
use Rattle.pm_euler.specs.Bounds.{quartic_prefixes, quartic_choices, quartic_residues}
use Rattle.pm_euler.specs.Quartic.{MakesQuartic, quartic_pairs, IsQuarticSize, SamplesQuartic}
use Rattle.pm_objects.proofs.CodeBounds.{length-code_bounds, code_bounds_low}
use Rattle.pm_euler.proofs.BoundLemmas.{quartic_choices_are, quartic_choices_fit, quartic_residues_are, length-quartic_choices}
use Rattle.pm_euler.proofs.QuarticMaps.{quartic_maps, quartic_darts}

pub quartic_class : (n : ℕ) → IsQuarticSize n → IsTreeClass (quartic_pairs n) (quartic_prefixes n) (code_bounds (n + 1)) (quartic_residues n) (λ m. IsQuartic (structure_of m) n) (MakesQuartic n) (λ rest old_plant. old_plant ∷ rest)
quartic_class n size = record { profile = quartic_profile n size; maps = quartic_maps n size; trees = quartic_makes n size; joins = quartic_joins n }

pub quartic_one_to_one : (n : ℕ) → IsQuarticSize n → AreOneToOne (quartic_choices n) (quartic_residues n) (λ m. IsQuartic (structure_of m) n) (SamplesQuartic n)
quartic_one_to_one n size = tree_one_to_one (quartic_class n size)

pub quartic_kept_by_renumbering : (n : ℕ) → IsKeptByRenumbering (λ m. IsQuartic (structure_of m) n)
quartic_kept_by_renumbering n map other rooted after = quartic_kept n (structure_of map) (structure_of other) rooted.structure after.structure

pub quartic_limits : (n : ℕ) → IsQuarticSize n → AreLimits (quartic_choices n) (quartic_residues n)
quartic_limits n size =
    let few = size.few in
    let choices = length-quartic_choices n in
    let code = length-code_bounds (n + 1) in
    record {
      choice_bounds = quartic_choices_are n;
      choices_fit = quartic_choices_fit n (omega (arith, few));
      few_choices = omega (arith, few, choices);
      residue_bounds = quartic_residues_are n;
      few_residues = omega (arith, few, code);
      low_residues = All-cons (λ (bound : ℕ). bound ≤ 2 * MAX_EDGES) (n + 2) (code_bounds (n + 1)) (omega (arith, few)) (code_bounds_low (2 * MAX_EDGES) (n + 1) (omega (arith, few)));
    }

-- a quartic map with the greatest size has as many edges as a map may have
pub quartic_most_edges : HasMostEdges IsQuarticSize (λ n m. IsQuartic (structure_of m) n) MAX_EDGES
quartic_most_edges = record {
  within = λ n map size rooted is. rooted.few;
  greatest = MAX_EDGES / 2;
  is_greatest = record { some = omega arith; few = omega arith };
  reached = λ map rooted is. let darts = quartic_darts map (MAX_EDGES / 2) rooted is in omega (arith, darts);
}
