-- Trees by how many nodes they have of each degree, and the maps to which they close.
use Rattle.std.proofs.Common.{◌≡◌, ℕ, suc, ◌+◌, ◌*◌, ◌/◌, ◌<◌, ◌==◌, inl, inr, List, [], ◌∷◌, ◌++◌, length, ap, sym, ◌∙◌, arith}
use Rattle.std.specs.Prelude.{count_by}
use Rattle.std.proofs.lemmas.Bool.{cases_eq}
use Rattle.std.proofs.lemmas.List.{length-map}
use Rattle.pm_limits.specs.declared.TheConstants.{MAX_DEGREE}
use Rattle.pm_brackets.specs.declared.letters.TheConstants.{OPEN, CLOSE}
use Rattle.pm_trees.specs.Word.{contour}
use Rattle.pm_trees.specs.Blossoming.{IsBlossoming, leaves}
use Rattle.pm_trees.specs.Degrees.{nodes_of}
use Rattle.pm_trees.specs.Pairs.{IsProfile, pair_at}
use Rattle.pm_trees.specs.Replanting.{IsAlike}
use Rattle.pm_match.specs.Pair.{IsBalanced}
use Rattle.pm_map.specs.Structure.{Structure}
use Rattle.pm_map.specs.Rotation.{RotationSystem, structure_of, IsRootedMap}
use Rattle.pm_map.specs.Classes.{HasDegrees, IsEulerian, vertices_of_degree}
use Rattle.pm_map.specs.ClassRules.{AllAdmitted}
use Rattle.pm_map.specs.declared.admitted.Degrees.TheVariants.{EvenUpTo}
use Rattle.pm_map.proofs.CarriedDegrees.{degrees_carried}
use Rattle.pm_close.proofs.PlaneMap.{rooted_closure}
use Rattle.pm_close.proofs.KeptDegrees.{kept}
use Rattle.pm_open.specs.Opening.{IsOpening}
use Rattle.pm_open.proofs.KeptByOpening.{kept_degrees}
use Rattle.pm_objects.specs.Objects.{arity_of}
use Rattle.pm_objects.proofs.ObjectCounts.{numbers, arities_long, find_range}
use Rattle.pm_objects.proofs.ObjectCounts.{all_objects as objects_of_ranges}
use Rattle.pm_objects.proofs.SameCounts.{IsAsMany, as_many, counted_keys}
use Rattle.pm_planting.specs.Kinds.{IsWordOfKinds, half_of, halves_in}
use Rattle.pm_planting.specs.declared.kind.Kind.{Kind}
use Rattle.pm_planting.proofs.KindLaws.{kinds_leaves, kinds_nodes}
use Rattle.pm_planting.proofs.KindSides.{kinds_long}
use Rattle.pm_planting.proofs.WordKinds.{kinds_exist}
use Rattle.pm_euler.specs.Closed.{IsCanonicalClosure}
use Rattle.pm_euler.specs.Objects.{halves_of, nodes_of_profile, leaves_of_profile, ranges_of}
use Rattle.pm_euler.specs.Sampled.{HasNodes}
use Rattle.pm_euler.proofs.ClosedMaps.{canonical_closure_is_rooted}
use Rattle.pm_euler.proofs.EulerianMaps.{profile_admits, with_profile}
use Rattle.pm_euler.proofs.ObjectKinds.{half_degrees}
use Rattle.pm_euler.proofs.ObjectLemmas.{HasObjects, all_of_profile, halves_sum, profile_apart, profile_has}

-- as many objects as a profile has
pub all_objects : (pairs : List (ℕ × ℕ)) → IsProfile pairs → HasObjects pairs (numbers (nodes_of_profile pairs + leaves_of_profile pairs))
all_objects pairs is = profile_has pairs (numbers (nodes_of_profile pairs + leaves_of_profile pairs)) is (objects_of_ranges (ranges_of pairs) (leaves_of_profile pairs) (profile_apart pairs is))

-- a tree with these nodes has as many objects of each half degree as the profile
pub profile_kinds : (pairs : List (ℕ × ℕ)) (kinds : List Kind) (word : List ℕ) → IsProfile pairs → IsWordOfKinds kinds word → HasNodes word pairs
    → IsAsMany (halves_in kinds) (half_degrees (halves_of pairs) (numbers (nodes_of_profile pairs + leaves_of_profile pairs)))
profile_kinds pairs kinds word is h nodes =
    as_many (halves_in kinds) (half_degrees (halves_of pairs) (numbers (nodes_of_profile pairs + leaves_of_profile pairs)))
    (let a = kinds_long kinds ((OPEN ∷ word ++ CLOSE ∷ []) ∷ []) h in let b = length-map kinds half_of in omega (arith, a, b))
    (arities_long (ranges_of pairs) (leaves_of_profile pairs) (omega (arith, all_of_profile pairs is, halves_sum pairs is)))
    (λ half some. sym (kinds_nodes kinds word h half some) ∙ nodes_are half some ∙ sym (counted_keys (arity_of (halves_of pairs)) half (numbers (nodes_of_profile pairs + leaves_of_profile pairs)))) where
      nodes_are : (half : ℕ) → 0 < half → nodes_of word (2 * half) ≡ count_by (λ object. arity_of (halves_of pairs) object == half) (numbers (nodes_of_profile pairs + leaves_of_profile pairs))
      nodes_are half some = elim (find_range pairs (2 * half) (length pairs)) [
        | inl found ↦
            let e = found.2 in
            let here : (pair_at pairs found.0).0 / 2 ≡ half = omega (arith, e) in
            ap (nodes_of word) (sym found.2) ∙ nodes.counts found.0 found.1 ∙ sym ((all_objects pairs is).of_pair found.0 found.1)
            ∙ ap (λ (n : ℕ). count_by (λ object. arity_of (halves_of pairs) object == n) (numbers (nodes_of_profile pairs + leaves_of_profile pairs))) here
        | inr none ↦ nodes.others (2 * half) none ∙ sym ((all_objects pairs is).of_no_pair half some none)
      ]

-- and as many leaves, with the plant
pub profile_leaves : (pairs : List (ℕ × ℕ)) → IsProfile pairs → (word : List ℕ) → IsBlossoming word → HasNodes word pairs → leaves word ≡ suc (leaves_of_profile pairs)
profile_leaves pairs is word tree nodes =
    let found = kinds_exist word tree in
    let many = profile_kinds pairs found.0 word is found.1 nodes in
    kinds_leaves found.0 word found.1 ∙ ap suc (many.each 0 ∙ counted_keys (arity_of (halves_of pairs)) 0 (numbers (nodes_of_profile pairs + leaves_of_profile pairs)) ∙ (all_objects pairs is).of_leaves)

-- a tree that is alike has the same nodes
pub nodes_alike : (word other : List ℕ) (pairs : List (ℕ × ℕ)) → IsAlike word other → HasNodes word pairs → HasNodes other pairs
nodes_alike word other pairs alike nodes = record { counts = λ k less. alike.degrees (pair_at pairs k).0 ∙ nodes.counts k less; others = λ degree none. alike.degrees degree ∙ nodes.others degree none }

-- of each degree there are as many vertices of the canonical closure as nodes
closure_degrees : (word : List ℕ) (map : RotationSystem) → IsBlossoming word → IsBalanced (contour word) → IsCanonicalClosure word map → (degree : ℕ) → vertices_of_degree (structure_of map) degree ≡ nodes_of word degree
closure_degrees word map tree balanced c degree =
    let before = rooted_closure word c.closure tree balanced c.is_closure in
    let after = canonical_closure_is_rooted word map tree balanced c in
    degrees_carried (structure_of c.closure) (structure_of map) before.structure after.structure c.is_canonical.is_same degree ∙ (kept word c.closure tree balanced c.is_closure).counts degree

-- so the map has these degrees where the tree has these nodes
pub closure_has : (pairs : List (ℕ × ℕ)) → IsProfile pairs → (word : List ℕ) (map : RotationSystem) → IsBlossoming word → IsBalanced (contour word) → HasNodes word pairs → IsCanonicalClosure word map → IsEulerian (structure_of map) pairs
closure_has pairs is word map tree balanced nodes closed =
    let rooted = canonical_closure_is_rooted word map tree balanced closed in
    record {
      plane = record { structure = rooted.structure; connected = rooted.connected; euler = rooted.euler };
      degrees = record {
        rising = λ k less. (is.are_pairs.right (suc k) less).rising;
        some = λ k less. (is.are_pairs.right k less).counted;
        even = λ k less. (is.are_pairs.right k less).even;
        counts = λ k less. closure_degrees word map tree balanced closed (pair_at pairs k).0 ∙ nodes.counts k less;
        others = λ degree none. closure_degrees word map tree balanced closed degree ∙ nodes.others degree none;
      };
    }

-- and the other way round
pub nodes_of_map : (pairs : List (ℕ × ℕ)) (s : Structure) (word : List ℕ) → HasDegrees s pairs → ((degree : ℕ) → nodes_of word degree ≡ vertices_of_degree s degree) → HasNodes word pairs
nodes_of_map pairs s word has same = record { counts = λ k less. same (pair_at pairs k).0 ∙ has.counts k less; others = λ degree none. same degree ∙ has.others degree none }

module _ (pairs : List (ℕ × ℕ)) (map : RotationSystem) (is : IsProfile pairs) where
  pub profile_darts : IsEulerian (structure_of map) pairs → 0 < length map.sigma
  profile_darts has = elim (cases_eq (length map.sigma) 0) [ inl none ↦ absurd (with_profile map pairs is has none) | inr some ↦ omega (arith, some) ]

  pub profile_degrees : IsRootedMap map → IsEulerian (structure_of map) pairs → AllAdmitted (structure_of map) (EvenUpTo MAX_DEGREE)
  profile_degrees rooted has dart less = profile_admits map pairs dart rooted is has less

  pub opening_leaves : IsRootedMap map → IsEulerian (structure_of map) pairs → (opening : List ℕ) → IsOpening map opening → leaves opening ≡ suc (leaves_of_profile pairs)
  opening_leaves rooted has opening o =
      profile_leaves pairs is opening o.blossoming (nodes_of_map pairs (structure_of map) opening has.degrees (λ degree. sym (kept_degrees map opening rooted o degree)))
