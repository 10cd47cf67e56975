-- The laws of maps with given even degrees as a class.
use Rattle.std.proofs.Common.{ℕ, zero, suc, ◌*◌, ◌<◌, ◌≤◌, List, [], ◌∷◌, ◌++◌, length, length-append, refl, arith}
use Rattle.pm_euler.proofs.EulerianMade.{eulerian_makes, eulerian_joins}
use Rattle.pm_euler.proofs.TreeSamples.{IsTreeClass, tree_one_to_one}
use Rattle.std.specs.Prelude.{All, flat_map}
use Rattle.std.specs.List.{sum_by}
use Rattle.std.proofs.lemmas.List.Elements.{All-append, All-nil, All-cons}
use Rattle.std.proofs.lemmas.List.Sums.{sum_by-cons}
use Rattle.pm_limits.specs.declared.TheConstants.{MAX_EDGES}
use Rattle.pm_map.specs.Rotation.{structure_of}
use Rattle.pm_map.specs.Classes.{IsEulerian, vertices_of_degree}
use Rattle.pm_map.proofs.ClassesKept.{eulerian_kept}
use Rattle.pm_map.proofs.DegreesTaken.{darts_below, darts_below-more, darts_below-bound}
use Rattle.pm_trees.specs.Pairs.{IsProfile, IsRightPair, edges_of}
use Rattle.pm_trees.proofs.CountedPairs.{sum_bounded}
use Rattle.pm_class.specs.ClassLaws.{IsKeptByRenumbering, AreLimits, HasMostEdges}
use Rattle.pm_class.specs.OneToOne.{AreOneToOne}
use Rattle.pm_objects.specs.Codes.{code_bounds}
use Rattle.pm_euler.specs.Bounds.{eulerian_rests, eulerian_prefixes, eulerian_choices, eulerian_residues}
use Rattle.pm_euler.specs.Eulerian.{MakesEulerian, SamplesEulerian}
use Rattle.pm_objects.proofs.ObjectCounts.{nodes_by_ranges}
use Rattle.pm_euler.specs.Objects.{leaves_of_profile, ranges_of}
use Rattle.pm_objects.proofs.CodeBounds.{code_bounds_low, length-bounds_by_range}
use Rattle.pm_euler.proofs.EulerianBounds.{eulerian_choices_are, eulerian_choices_fit, eulerian_residues_are, length-eulerian_choices}
use Rattle.pm_euler.proofs.EulerianMaps.{counted_of_degrees}
use Rattle.pm_euler.proofs.ObjectLemmas.{halves_few}

pub eulerian_class : (pairs : List (ℕ × ℕ)) → IsProfile pairs
    → IsTreeClass pairs (eulerian_prefixes pairs) (eulerian_rests pairs) (eulerian_residues pairs) (λ m. IsEulerian (structure_of m) pairs) (MakesEulerian pairs) (λ rest old_plant. rest ++ old_plant ∷ [])
eulerian_class pairs is = record { profile = is; maps = λ m rooted. (λ has. has, λ has. has); trees = eulerian_makes pairs is; joins = eulerian_joins pairs }

pub eulerian_one_to_one : (pairs : List (ℕ × ℕ)) → IsProfile pairs → AreOneToOne (eulerian_choices pairs) (eulerian_residues pairs) (λ m. IsEulerian (structure_of m) pairs) (SamplesEulerian pairs)
eulerian_one_to_one pairs is = tree_one_to_one (eulerian_class pairs is)

pub eulerian_kept_by_renumbering : (pairs : List (ℕ × ℕ)) → IsKeptByRenumbering (λ m. IsEulerian (structure_of m) pairs)
eulerian_kept_by_renumbering pairs map other rooted after = eulerian_kept pairs (structure_of map) (structure_of other) rooted.structure after.structure

-- the bounds of the codes are as many as the nodes, and as low
codes_low : (most : ℕ) (ranges : List (ℕ × ℕ)) → sum_by (λ (r : ℕ × ℕ). r.1) ranges ≤ most → All (λ bound. bound ≤ most) (flat_map (λ (r : ℕ × ℕ). code_bounds r.1) ranges)
codes_low most [] few = All-nil (λ (bound : ℕ). bound ≤ most)
codes_low most (r ∷ ranges) few =
    All-append (λ (bound : ℕ). bound ≤ most) (code_bounds r.1) (flat_map (λ (r : ℕ × ℕ). code_bounds r.1) ranges) (code_bounds_low most r.1 (omega (arith, few, sum_by-cons (λ (r : ℕ × ℕ). r.1) r ranges)))
    (codes_low most ranges (omega (arith, few, sum_by-cons (λ (r : ℕ × ℕ). r.1) r ranges)))

pub eulerian_limits : (pairs : List (ℕ × ℕ)) → IsProfile pairs → AreLimits (eulerian_choices pairs) (eulerian_residues pairs)
eulerian_limits pairs is =
    let few = is.few in
    let nodes = halves_few pairs is in
    let counted = nodes_by_ranges (ranges_of pairs) in
    let choices = length-eulerian_choices pairs in
    let leaves : ℕ = leaves_of_profile pairs in
    let codes : List ℕ = flat_map (λ (r : ℕ × ℕ). code_bounds r.1) (ranges_of pairs) in
    record {
      choice_bounds = eulerian_choices_are pairs is;
      choices_fit = eulerian_choices_fit pairs is (omega (arith, few));
      few_choices = omega (arith, few, nodes, choices);
      residue_bounds = eulerian_residues_are pairs;
      few_residues =
          let all = length-append (codes ++ code_bounds leaves) (suc leaves ∷ []) in
          omega (arith, few, nodes, all, length-bounds_by_range (ranges_of pairs) leaves);
      low_residues =
          All-cons (λ (bound : ℕ). bound ≤ 2 * MAX_EDGES) (suc (edges_of pairs)) (codes ++ code_bounds leaves ++ suc leaves ∷ []) (omega (arith, few))
          (All-append (λ (bound : ℕ). bound ≤ 2 * MAX_EDGES) (codes ++ code_bounds leaves) (suc leaves ∷ [])
          (All-append (λ (bound : ℕ). bound ≤ 2 * MAX_EDGES) codes (code_bounds leaves) (codes_low (2 * MAX_EDGES) (ranges_of pairs) (omega (arith, few, nodes, counted))) (code_bounds_low (2 * MAX_EDGES) leaves (omega (arith, few))))
          (All-cons (λ (bound : ℕ). bound ≤ 2 * MAX_EDGES) (suc leaves) [] (omega (arith, few)) (All-nil (λ (bound : ℕ). bound ≤ 2 * MAX_EDGES))));
    }

-- a profile with as many edges as a map may have
greatest_pairs : List (ℕ × ℕ)
greatest_pairs = (2, MAX_EDGES) ∷ []

greatest_is_profile : IsProfile greatest_pairs
unfolding greatest_pairs
greatest_is_profile = record {
  are_pairs = record { some = omega arith; right = each };
  few = omega arith;
} where
  each : (k : ℕ) → k < 1 → IsRightPair ((2, MAX_EDGES) ∷ []) k
  each zero less = record { even = refl; some = omega arith; few = omega arith; rising = omega arith; counted = omega arith }
  each (suc k) less = absurd (omega arith)

pub eulerian_most_edges : HasMostEdges IsProfile (λ pairs m. IsEulerian (structure_of m) pairs) MAX_EDGES
unfolding greatest_pairs
eulerian_most_edges = record {
  within = λ pairs map is rooted has. rooted.few;
  greatest = greatest_pairs;
  is_greatest = greatest_is_profile;
  reached = λ map rooted has.
      let counted = counted_of_degrees (structure_of map) greatest_pairs greatest_is_profile has.degrees in
      let sum = sum_bounded (vertices_of_degree (structure_of map)) (darts_below (structure_of map)) (λ d. darts_below-more (structure_of map) d rooted.structure) greatest_pairs (length map.sigma) counted
      (λ d. darts_below-bound (structure_of map) d) in
      let most = rooted.few in
      omega (arith, sum, most);
}
