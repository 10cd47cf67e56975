-- From the steps of the code to the unmedial: edges that are twins, darts that number them, the rotation of the half.
use Rattle.std.proofs.Common.{◌≡◌, ℕ, ◌*◌, ◌/◌, ◌<◌, ◌≤◌, Bool, false, List, length, get_or, slice_index, sym, ap, ◌∙◌, subst, arith}
use Rattle.std.specs.Prelude.{slice_index_or}
use Rattle.std.proofs.lemmas.Grind.{get_or_default_zero}
use Rattle.pm_perm.specs.Permutation.{IsPermutationList}
use Rattle.pm_map.specs.Structure.{Structure, IsStructure}
use Rattle.pm_map.specs.Rotation.{RotationSystem, structure_of, IsRootedMap}
use Rattle.pm_map.specs.CycleSize.{IsCycleSize}
use Rattle.pm_map.specs.EdgeNumbers.{IsTwinning, dart_of}
use Rattle.pm_map.specs.ClassRules.{AllAdmitted, IsLeastOther}
use Rattle.pm_map.specs.declared.admitted.Degrees.TheVariants.{Exactly, EvenUpTo}
use Rattle.pm_map.proofs.CycleSizes.{IsAway-short}
use Rattle.pm_map.proofs.DegreeRules.{cycle_size_is_unique}
use Rattle.pm_map.proofs.NumberedEdges.{dart_of_permutes, dart_of-same}
use Rattle.pm_distances.specs.AcrossEdges.{AllDegreesAreEven}
use Rattle.pm_medial.specs.Medial.{IsUnmedialOf}
use Rattle.pm_medial.specs.Colouring.{AreColours, IsLeastOdd}
use Rattle.pm_medial.specs.steps.Halved.{edge_two_on, edge_before, AreEdgesTwoOn, IsHalfRotation}
use Rattle.pm_medial.proofs.HalfNames.{edges_twin, plus_of_stays}
use Rattle.pm_medial.proofs.SignedDarts.{three_stays}
use Rattle.pm_medial.proofs.UnmedialLaws.{half_is_unmedial}

-- all degrees are 4
pub all_four : (s : Structure) → AllAdmitted s (Exactly 4) → (d : ℕ) → d < s.darts → IsCycleSize s.next d 4
all_four s admitted d h = (let has = admitted d h in subst (IsCycleSize s.next d) has.admitted has.counted)

-- all degrees are even
pub all_even : (s : Structure) (greatest : ℕ) → AllAdmitted s (EvenUpTo greatest) → AllDegreesAreEven s
all_even s greatest admitted d degree h size =
    let has = admitted d h in
    let even = has.admitted.0 in
    omega (arith, even, cycle_size_is_unique s.next d degree has.degree size has.counted)

-- a degree is no more than the darts
size_few : (s : Structure) (d degree : ℕ) → IsStructure s → d < s.darts → IsCycleSize s.next d degree → degree ≤ s.darts
size_few s d degree is h size = IsAway-short s.darts s.next d degree d is.rotation h (record { some = size.some; leads = sym size.back; away = size.least })

-- the least dart whose degree isn't an even one up to the number of darts is the least whose degree is odd
pub least_odd : (map : RotationSystem) (dart greatest : ℕ) → IsRootedMap map → greatest ≡ length map.sigma → IsLeastOther (structure_of map) (EvenUpTo greatest) dart → IsLeastOdd (structure_of map) dart
least_odd map dart greatest rooted darts other = record {
  within = other.within;
  breaks = λ has. other.breaks (record {
    degree = has.degree;
    counted = has.counted;
    admitted = (has.even, (let few = size_few (structure_of map) dart has.degree rooted.structure other.within has.counted in omega (arith, few, darts)));
  });
  least = λ k h. (let has = other.least k h in record { degree = has.degree; counted = has.counted; even = has.admitted.0 });
}

module _ (map : RotationSystem) (colours : List Bool) (twins : List ℕ) (rooted : IsRootedMap map) (four : (d : ℕ) → d < length map.sigma → IsCycleSize (slice_index map.sigma) d 4)
    (are : AreColours map colours) (edges : AreEdgesTwoOn map colours twins) where
  abbrev plus : ℕ → Bool
  plus d = slice_index_or colours d false

  abbrev t : ℕ → ℕ
  t = edge_two_on (slice_index map.sigma) plus

  count_is : length map.sigma / 2 ≡ length twins
  count_is = omega (arith, edges.half)

  twinning : IsTwinning (length twins) t
  twinning = subst (λ n. IsTwinning n t) count_is (edges_twin map rooted plus are.colouring four)

  pub twins_are_twinning : IsTwinning (length twins) (slice_index twins)
  twins_are_twinning = record {
    stays = λ k h. subst (λ x. x < length twins) (sym (edges.entry k h)) (twinning.stays k h);
    back = λ k h. ap (slice_index twins) (edges.entry k h) ∙ edges.entry (t k) (twinning.stays k h) ∙ twinning.back k h;
    other = λ k h same. twinning.other k h (sym (edges.entry k h) ∙ same);
  }

  pub few_twins : length twins < 2147483648
  few_twins = (let bound = rooted.few in omega (arith, edges.half, bound))

  module _ (darts : List ℕ) (long : length darts ≡ length twins) (each : (p : ℕ) → p < length twins → slice_index darts p ≡ dart_of (slice_index twins) p) where
    dart_is : (p : ℕ) → p < length twins → slice_index darts p ≡ dart_of t p
    dart_is p h = each p h ∙ dart_of-same (slice_index twins) t (length twins) p edges.entry h (twins_are_twinning.stays p h)

    pub darts_permute : IsPermutationList darts
    darts_permute =
        let p = dart_of_permutes (length twins) (slice_index twins) twins_are_twinning in
        record {
          stays = λ k h. (let l : k < length twins = omega (arith, h, long) in omega (arith, long, p.stays k l, each k l));
          injective = λ j k hj hk same.
              (let l : j < length twins = omega (arith, hj, long) in let m : k < length twins = omega (arith, hk, long) in p.injective j k l m (sym (each j l) ∙ same ∙ each k m));
        }

    pub half_darts : 2 * length darts ≡ length map.sigma
    half_darts = omega (arith, long, edges.half)

    pub rotation_is_unmedial : (rotation : List ℕ) (root old_root : ℕ) → 0 < length map.sigma → IsHalfRotation map colours darts rotation (length darts)
        → root ≡ get_or darts (old_root / 2) root → old_root ≡ map.root → IsUnmedialOf (structure_of map) (record { sigma = rotation; root = root })
    rotation_is_unmedial rotation root old_root some w read is_root =
        half_is_unmedial map plus (record { sigma = rotation; root = root }) rooted some are.colouring four
        (record {
          half = omega (arith, w.long, long, edges.half);
          entry = λ k h.
              let l : k < length twins = omega (arith, h, w.long, long) in
              let before = edge_before_stays k l in
              ap (slice_index rotation) (sym (dart_is k l)) ∙ w.entry k (omega (arith, h, w.long)) ∙ dart_is (edge_before (slice_index map.sigma) plus k) before;
          root =
              read ∙ get_or_default_zero darts (old_root / 2) root (let within = root_stays some in omega (arith, within, long, is_root))
              ∙ ap (λ r. slice_index darts (r / 2)) is_root ∙ dart_is (map.root / 2) (root_stays some);
        }) where
          root_stays : 0 < length map.sigma → map.root / 2 < length twins
          root_stays some = (let stays = rooted.structure.root_stays some in omega (arith, stays, edges.half))

          edge_before_stays : (k : ℕ) → k < length twins → edge_before (slice_index map.sigma) plus k < length twins
          edge_before_stays k l =
              let within = plus_of_stays map rooted plus are.colouring four k (omega (arith, l, count_is)) in
              let there = three_stays (structure_of map) rooted.structure plus are.colouring _ (rooted.structure.twin_stays _ within) in
              omega (arith, there, edges.half)
