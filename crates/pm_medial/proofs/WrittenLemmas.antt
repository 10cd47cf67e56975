-- Writing a medial rotation, dart by dart, and what it is when all is written.
use Rattle.std.proofs.Common.{◌≡◌, ℕ, suc, ◌*◌, ◌<◌, ◌≤◌, List, length, length-set, get_or, set, inl, inr, sym, ◌∙◌, subst, arith}
use Rattle.std.proofs.lemmas.Bool.{cases_eq}
use Rattle.std.proofs.lemmas.List.{get_or-set_same, get_or-set_other}
use Rattle.pm_limits.specs.declared.TheConstants.{MAX_EDGES}
use Rattle.pm_perm.specs.Permutation.{IsPermutationList}
use Rattle.pm_map.specs.Rotation.{RotationSystem, structure_of, twin, IsRootedMap}
use Rattle.pm_map.proofs.CarriedStructure.{rooted_is_plane}
use Rattle.pm_medial.specs.Medial.{IsMedialMap}
use Rattle.pm_medial.specs.steps.Written.{IsMedialRotation}
use Rattle.pm_medial.proofs.MedialCounts.{medial_is_quartic}

pub written_none : (sigma rotation : List ℕ) → length rotation ≡ 2 * length sigma → IsMedialRotation sigma rotation 0
written_none sigma rotation double = record { double = double; plus = λ d h. absurd (omega arith); minus = λ d h. absurd (omega arith) }

-- one dart more
pub written_more : (sigma rotation : List ℕ) (dart plus_place minus_place after_plus after_minus : ℕ) → IsPermutationList sigma → dart < length sigma → IsMedialRotation sigma rotation dart
    → plus_place ≡ 2 * get_or sigma dart 0 → minus_place ≡ suc (2 * dart) → after_plus ≡ suc (2 * dart) → after_minus ≡ 2 * twin (get_or sigma dart 0)
    → IsMedialRotation sigma (set (set rotation plus_place after_plus) minus_place after_minus) (suc dart)
written_more sigma rotation dart plus_place minus_place after_plus after_minus p h w at_plus at_minus is_plus is_minus =
    let one : List ℕ = set rotation plus_place after_plus in
    let two : List ℕ = set one minus_place after_minus in
    let stays : get_or sigma dart 0 < length sigma = p.stays dart h in
    let long_one : length one ≡ length rotation = length-set rotation plus_place after_plus in
    let long_two : length two ≡ length one = length-set one minus_place after_minus in
    let elsewhere : (k : ℕ) → (k ≡ plus_place → ⊥) → (k ≡ minus_place → ⊥) → get_or two k 0 ≡ get_or rotation k 0 =
    λ k one_not two_not. get_or-set_other one minus_place k after_minus 0 two_not ∙ get_or-set_other rotation plus_place k after_plus 0 one_not in
    record {
      double = long_two ∙ long_one ∙ w.double;
      plus = λ d l. elim (cases_eq d dart) [
        | inl same ↦
            let here : get_or two plus_place 0 ≡ suc (2 * dart) =
            get_or-set_other one minus_place plus_place after_minus 0 (λ e. omega (arith, e, at_plus, at_minus))
            ∙ get_or-set_same rotation plus_place after_plus 0 (omega (arith, at_plus, w.double, stays)) ∙ is_plus in
            subst (λ x. get_or two (2 * get_or sigma x 0) 0 ≡ suc (2 * x)) (sym same) (subst (λ x. get_or two x 0 ≡ suc (2 * dart)) at_plus here)
        | inr other ↦
            let before : d < dart = omega (arith, l, other) in
            let differs : get_or sigma d 0 ≡ get_or sigma dart 0 → ⊥ = λ e. other (p.injective d dart (omega (arith, before, h)) h e) in
            elsewhere (2 * get_or sigma d 0) (λ e. differs (omega (arith, e, at_plus))) (λ e. omega (arith, e, at_minus)) ∙ w.plus d before
      ];
      minus = λ d l. elim (cases_eq d dart) [
        | inl same ↦
            let here : get_or two minus_place 0 ≡ 2 * twin (get_or sigma dart 0) =
            get_or-set_same one minus_place after_minus 0 (omega (arith, at_minus, long_one, w.double, h)) ∙ is_minus in
            subst (λ x. get_or two (suc (2 * x)) 0 ≡ 2 * twin (get_or sigma x 0)) (sym same) (subst (λ x. get_or two x 0 ≡ 2 * twin (get_or sigma dart 0)) at_minus here)
        | inr other ↦
            let before : d < dart = omega (arith, l, other) in
            elsewhere (suc (2 * d)) (λ e. omega (arith, e, at_plus)) (λ e. other (omega (arith, e, at_minus))) ∙ w.minus d before
      ];
    }

-- what is written is the medial map
pub written_is_medial : (m : RotationSystem) (rotation : List ℕ) (root : ℕ) → IsMedialRotation m.sigma rotation (length m.sigma) → root ≡ 2 * m.root
    → IsMedialMap m (record { sigma = rotation; root = root })
written_is_medial m rotation root w is_root = record {
  darts = w.double;
  after_plus = w.plus;
  after_minus = w.minus;
  twin_of_plus = λ d h. omega arith;
  twin_of_minus = λ d h. omega arith;
  root = is_root;
}

-- a medial map is a rooted map
pub medial_is_rooted : (m other : RotationSystem) → IsRootedMap m → 0 < length m.sigma → length m.sigma ≤ MAX_EDGES → IsMedialMap m other → IsRootedMap other
medial_is_rooted m other rooted some few of =
    let quartic = medial_is_quartic (structure_of m) (structure_of other) (rooted_is_plane m rooted) some of in
    record {
      even = omega (arith, of.darts);
      few = omega (arith, of.darts, few);
      structure = quartic.plane.structure;
      connected = quartic.plane.connected;
      euler = quartic.plane.euler;
    }
