-- The laws of maps with given even face degrees as a class, from those of the maps with given even degrees.
use Rattle.std.proofs.Common.{◌≡◌, ℕ, ◌<◌, List, length, Result, Ok, Err, refl, sym, ◌∙◌, ap, subst, arith}
use Rattle.pm_limits.specs.declared.TheConstants.{MAX_EDGES, MAX_DEGREE}
use Rattle.pm_map.specs.Structure.{Structure, IsStructure, CarriesTo, Same, dual}
use Rattle.pm_map.specs.Rotation.{RotationSystem, structure_of, IsRootedMap}
use Rattle.pm_map.specs.Classes.{IsBipartite, IsEulerian}
use Rattle.pm_map.specs.ClassRules.{AllAdmitted, HasAdmittedDegree, IsLeastOther}
use Rattle.pm_map.specs.DualLaws.{IsDualOf}
use Rattle.pm_map.specs.declared.admitted.Degrees.{Degrees}
use Rattle.pm_map.specs.declared.admitted.Degrees.TheVariants.{EvenUpTo}
use Rattle.pm_map.specs.declared.class_refusal.ClassRefusal.{ClassRefusal}
use Rattle.pm_map.specs.declared.class_refusal.ClassRefusal.TheVariants.{Memory, Empty, TooMany, Vertex, Face, Loop, Double}
use Rattle.pm_map.proofs.CarriedSizes.{size_carried}
use Rattle.pm_map.proofs.CarriedStructure.{dual_is_structure, rooted_is_plane}
use Rattle.pm_map.proofs.ClassesKept.{bipartite_kept, eulerian_kept}
use Rattle.pm_map.proofs.DualMaps.{dual_is_plane, dual_is_rooted, duals_tell}
use Rattle.pm_trees.specs.Pairs.{IsProfile}
use Rattle.pm_class.specs.Behind.{IsSameAsImage, ImagesTell, AreExchanged}
use Rattle.pm_class.specs.ClassLaws.{IsKeptByRenumbering, HasMostEdges}
use Rattle.pm_class.specs.Sampling.{IsSizeWhereAnswered, HasOneAnswer, HasSomeAnswer}
use Rattle.pm_euler.specs.Eulerian.{IsEulerianAnswer}
use Rattle.pm_general.specs.Bipartite.{IsDualStructure, IsBipartiteAnswer}
use Rattle.pm_general.proofs.DualsOfMaps.{dual_map, dual_map_is, map_to_dual, dual_to_map, dual_back}

-- the dual map of a map is the same as its image
pub dual_is_imaged : (m other : RotationSystem) → IsDualOf m other → IsSameAsImage IsDualStructure m other
dual_is_imaged m other of = record { there = dual (structure_of m); is_image = refl; is_same = (λ d. d, map_to_dual m other of) }

-- the dual of a map has as many vertices of each degree as the map has faces
pub dual_is_eulerian : (pairs : List (ℕ × ℕ)) (m other : RotationSystem) → IsRootedMap m → IsDualOf m other → IsBipartite (structure_of m) pairs → IsEulerian (structure_of other) pairs
dual_is_eulerian pairs m other rooted of is =
    let there : IsStructure (dual (structure_of m)) = dual_is_structure (structure_of m) rooted.structure in
    let after : IsStructure (structure_of other) = (dual_is_rooted m other rooted of).structure in
    eulerian_kept pairs (dual (structure_of m)) (structure_of other) there after (λ d. d, dual_to_map m other of)
    (record { plane = dual_is_plane (structure_of m) is.plane; degrees = is.degrees })

-- a map whose dual is eulerian is bipartite
pub dual_is_bipartite : (pairs : List (ℕ × ℕ)) (m other : RotationSystem) → IsRootedMap m → IsDualOf m other → IsEulerian (structure_of other) pairs → IsBipartite (structure_of m) pairs
dual_is_bipartite pairs m other rooted of is = record {
  plane = rooted_is_plane m rooted;
  degrees = (eulerian_kept pairs (structure_of other) (dual (structure_of m)) (dual_is_rooted m other rooted of).structure (dual_is_structure (structure_of m) rooted.structure) (λ d. d, map_to_dual m other of) is).degrees;
}

duals_tell_images : ImagesTell IsDualStructure
duals_tell_images map other map_there other_there rooted also is_map is_other =
    let tell = duals_tell (structure_of map) (structure_of other) rooted.structure also.structure in (
      λ same. subst (λ (s : Structure). Same s other_there) (sym is_map) (subst (Same (dual (structure_of map))) (sym is_other) (tell.0 same)),
      λ same. tell.1 (subst (λ (s : Structure). Same s (dual (structure_of other))) is_map (subst (Same map_there) is_other same)),
    )

pub bipartite_kept_by_renumbering : (pairs : List (ℕ × ℕ)) → IsKeptByRenumbering (λ m. IsBipartite (structure_of m) pairs)
bipartite_kept_by_renumbering pairs map other rooted after = bipartite_kept pairs (structure_of map) (structure_of other) rooted.structure after.structure

pub bipartite_is_exchanged : (pairs : List (ℕ × ℕ)) → AreExchanged IsDualStructure (λ m. IsEulerian (structure_of m) pairs) (λ m. IsBipartite (structure_of m) pairs)
bipartite_is_exchanged pairs = record {
  to_behind = λ m rooted is. record {
    map = dual_map m;
    rooted = dual_is_rooted m (dual_map m) rooted (dual_map_is m);
    in_class = dual_is_eulerian pairs m (dual_map m) rooted (dual_map_is m) is;
    is = dual_is_imaged m (dual_map m) (dual_map_is m);
  };
  from_behind = λ m rooted is. record {
    map = dual_map m;
    rooted = dual_is_rooted m (dual_map m) rooted (dual_map_is m);
    in_class = dual_is_bipartite pairs (dual_map m) m (dual_is_rooted m (dual_map m) rooted (dual_map_is m)) (dual_back m (dual_map m) rooted.structure (dual_map_is m)) is;
    is = dual_is_imaged (dual_map m) m (dual_back m (dual_map m) rooted.structure (dual_map_is m));
  };
  tells = duals_tell_images;
  kept = bipartite_kept_by_renumbering pairs;
}

-- a dart keeps its admitted degree, and the least one without keeps its place
admitted_carried : (a b : Structure) (degrees : Degrees) (dart : ℕ) → IsStructure a → CarriesTo (λ d. d) a b → dart < a.darts → HasAdmittedDegree a degrees dart → HasAdmittedDegree b degrees dart
admitted_carried a b degrees dart is carries less has =
    record { degree = has.degree; counted = size_carried (λ d. d) a b carries is.rotation dart has.degree less has.counted; admitted = has.admitted }

least_other_carried : (a b : Structure) (degrees : Degrees) (dart : ℕ) → IsStructure a → IsStructure b → CarriesTo (λ d. d) a b → CarriesTo (λ d. d) b a → IsLeastOther a degrees dart → IsLeastOther b degrees dart
least_other_carried a b degrees dart is also to back other =
    let within : dart < a.darts = other.within in
    record {
      within = subst (λ (n : ℕ). dart < n) to.darts within;
      breaks = λ has. other.breaks (admitted_carried b a degrees dart also back (subst (λ (n : ℕ). dart < n) to.darts within) has);
      least = λ e less. admitted_carried a b degrees e is to (omega (arith, less, within)) (other.least e less);
    }

-- an answer to the map, from that to its dual
abbrev pub faced : Result (List (ℕ × ℕ)) ClassRefusal → Result (List (ℕ × ℕ)) ClassRefusal
faced (Ok pairs) = Ok pairs
faced (Err (Vertex dart)) = Err (Face dart)
faced (Err (Face dart)) = Err (Vertex dart)
faced (Err Empty) = Err Empty
faced (Err Memory) = Err Memory
faced (Err (TooMany edges)) = Err (TooMany edges)
faced (Err (Loop dart)) = Err (Loop dart)
faced (Err (Double dart)) = Err (Double dart)

twice_faced : (answer : Result (List (ℕ × ℕ)) ClassRefusal) → faced (faced answer) ≡ answer
twice_faced (Ok pairs) = refl
twice_faced (Err (Vertex dart)) = refl
twice_faced (Err (Face dart)) = refl
twice_faced (Err Empty) = refl
twice_faced (Err Memory) = refl
twice_faced (Err (TooMany edges)) = refl
twice_faced (Err (Loop dart)) = refl
twice_faced (Err (Double dart)) = refl

module _ (m other : RotationSystem) (rooted : IsRootedMap m) (of : IsDualOf m other) where
  there : IsStructure (dual (structure_of m))
  there = dual_is_structure (structure_of m) rooted.structure

  after : IsRootedMap other
  after = dual_is_rooted m other rooted of

  -- the vertices of the dual have the degrees of the faces
  pub vertices_of_dual : AllAdmitted (dual (structure_of m)) (EvenUpTo MAX_DEGREE) → AllAdmitted (structure_of other) (EvenUpTo MAX_DEGREE)
  vertices_of_dual all = λ d less.
      let within : d < length m.sigma = subst (λ n. d < n) of.as_long less in
      admitted_carried (dual (structure_of m)) (structure_of other) (EvenUpTo MAX_DEGREE) d there (dual_to_map m other of) within (all d within)

  face_of_dual : (dart : ℕ) → IsLeastOther (structure_of other) (EvenUpTo MAX_DEGREE) dart → IsLeastOther (dual (structure_of m)) (EvenUpTo MAX_DEGREE) dart
  face_of_dual dart is = least_other_carried (structure_of other) (dual (structure_of m)) (EvenUpTo MAX_DEGREE) dart after.structure there (map_to_dual m other of) (dual_to_map m other of) is

  answer_to_dual : (answer : Result (List (ℕ × ℕ)) ClassRefusal) → IsBipartiteAnswer m answer → IsEulerianAnswer other (faced answer)
  answer_to_dual (Ok pairs) is = (is.0, dual_is_eulerian pairs m other rooted of is.1)
  answer_to_dual (Err (Face dart)) is = least_other_carried (dual (structure_of m)) (structure_of other) (EvenUpTo MAX_DEGREE) dart there after.structure (dual_to_map m other of) (map_to_dual m other of) is
  answer_to_dual (Err Empty) is = of.as_long ∙ is
  answer_to_dual (Err Memory) is = is
  answer_to_dual (Err (Vertex dart)) is = is
  answer_to_dual (Err (TooMany edges)) is = is
  answer_to_dual (Err (Loop dart)) is = is
  answer_to_dual (Err (Double dart)) is = is

from_memory : (answer : Result (List (ℕ × ℕ)) ClassRefusal) → faced answer ≡ Err Memory → answer ≡ Err Memory
from_memory answer e = sym (twice_faced answer) ∙ ap faced e

pub one_bipartite_answer : HasOneAnswer IsEulerianAnswer → HasOneAnswer IsBipartiteAnswer
one_bipartite_answer one m first second rooted x y not_first not_second =
    let of : IsDualOf m (dual_map m) = dual_map_is m in
    let same : faced first ≡ faced second =
    one (dual_map m) (faced first) (faced second) (dual_is_rooted m (dual_map m) rooted of) (answer_to_dual m (dual_map m) rooted of first x) (answer_to_dual m (dual_map m) rooted of second y)
    (λ e. not_first (from_memory first e)) (λ e. not_second (from_memory second e)) in
    sym (twice_faced first) ∙ ap faced same ∙ twice_faced second

pub bipartite_where_answered : IsSizeWhereAnswered IsProfile (λ pairs m. IsBipartite (structure_of m) pairs) IsBipartiteAnswer
bipartite_where_answered m pairs rooted = (λ is. is, λ both. both)

-- the maps with the most faces' darts are the duals of those with the most vertices' darts
pub bipartite_most_edges : HasMostEdges IsProfile (λ pairs m. IsEulerian (structure_of m) pairs) MAX_EDGES → HasMostEdges IsProfile (λ pairs m. IsBipartite (structure_of m) pairs) MAX_EDGES
bipartite_most_edges most = record {
  within = λ pairs m is rooted has. rooted.few;
  greatest = most.greatest;
  is_greatest = most.is_greatest;
  reached = λ m rooted is.
      let of : IsDualOf m (dual_map m) = dual_map_is m in
      sym of.as_long ∙ most.reached (dual_map m) (dual_is_rooted m (dual_map m) rooted of) (dual_is_eulerian most.greatest m (dual_map m) rooted of is);
}

-- the answer to the dual of a map is one to the map
answer_from_dual : (m other : RotationSystem) → IsRootedMap m → IsDualOf m other → (answer : Result (List (ℕ × ℕ)) ClassRefusal) → IsEulerianAnswer other answer → IsBipartiteAnswer m (faced answer)
answer_from_dual m other rooted of (Ok pairs) is = (is.0, dual_is_bipartite pairs m other rooted of is.1)
answer_from_dual m other rooted of (Err (Vertex dart)) is = face_of_dual m other rooted of dart is
answer_from_dual m other rooted of (Err Empty) is = sym of.as_long ∙ is
answer_from_dual m other rooted of (Err Memory) is = is
answer_from_dual m other rooted of (Err (Face dart)) is = is
answer_from_dual m other rooted of (Err (TooMany edges)) is = is
answer_from_dual m other rooted of (Err (Loop dart)) is = is
answer_from_dual m other rooted of (Err (Double dart)) is = is

pub some_bipartite_answer : HasSomeAnswer IsEulerianAnswer → HasSomeAnswer IsBipartiteAnswer
some_bipartite_answer some m rooted told =
    let of : IsDualOf m (dual_map m) = dual_map_is m in
    some (dual_map m) (dual_is_rooted m (dual_map m) rooted of)
    (λ answer is memory. told (faced answer) (answer_from_dual m (dual_map m) rooted of answer is) (λ e. memory (from_memory answer e)))
