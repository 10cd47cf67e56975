-- The opening of a map, with one of its leaves as the old plant, comes from a tree and one of its free leaves.
use Rattle.std.proofs.Common.{◌≡◌, ℕ, ◌<◌, inl, inr, List, length, take, sym, ◌∙◌, ap, subst}
use Rattle.pm_match.proofs.FreeMarks.{free_two, free_marks}
use Rattle.pm_brackets.proofs.PlantedAt.{later_chosen, has_number, earlier_chosen}
use Rattle.pm_trees.proofs.PlantedAt.{anew_back, anew_alike}
use Rattle.pm_limits.specs.declared.TheConstants.{MAX_DEGREE}
use Rattle.pm_trees.specs.declared.letters.TheConstants.{LEAF}
use Rattle.pm_trees.specs.Word.{contour}
use Rattle.pm_brackets.specs.Word.{count}
use Rattle.pm_trees.specs.Blossoming.{IsBlossoming, leaves}
use Rattle.pm_trees.specs.Degrees.{nodes_of}
use Rattle.pm_trees.specs.Leaves.{IsLeafAt}
use Rattle.pm_trees.specs.Replanted.{IsReplanted}
use Rattle.pm_trees.specs.Replanting.{IsAlike, leaf_after}
use Rattle.pm_trees.proofs.LeafTurns.{one_leaf}
use Rattle.pm_trees.proofs.Replants.{each_leaf, replanted_alike, replanting_undone}
use Rattle.pm_match.specs.Pair.{IsFree, IsBalanced}
use Rattle.pm_match.specs.FreeLeaves.{AreFreeLeaves}
use Rattle.pm_match.proofs.PairTurns.{free_leaf_balances}
use Rattle.pm_map.specs.Rotation.{RotationSystem, structure_of, IsRootedMap}
use Rattle.pm_map.specs.ClassRules.{AllAdmitted}
use Rattle.pm_map.specs.Classes.{vertices_of_degree}
use Rattle.pm_map.specs.declared.admitted.Degrees.TheVariants.{EvenUpTo}
use Rattle.pm_map.specs.Canonical.{IsCanonical, IsCanonicalOf}
use Rattle.pm_map.proofs.SameMaps.{same_as_itself, same_symmetric, same_transitive}
use Rattle.pm_open.specs.Opening.{IsOpening}
use Rattle.pm_open.proofs.KeptByOpening.{kept_degrees}
use Rattle.pm_open.proofs.SomeOpening.{each_map_opens}
use Rattle.pm_euler.specs.Closed.{IsCanonicalClosure}
use Rattle.pm_euler.specs.PlantedAnew.{IsFreeLeaf}
use Rattle.pm_euler.specs.Unplanted.{IsUnplanted}

-- where it was balanced, its plant from before is free
pub plant_is_free : (turned : List ℕ) (old : ℕ) (word : List ℕ) (place : ℕ) → IsBlossoming turned → IsBalanced (contour turned) → IsReplanted turned old word
    → IsLeafAt (contour word) (leaf_after turned old 0) place → IsFree (contour word) place
plant_is_free turned old word place tree balanced r numbered =
    let undone : IsReplanted word (leaf_after turned old 0) turned = replanting_undone turned old word tree r in
    subst (IsFree (contour word)) (one_leaf (contour word) (leaf_after turned old 0) undone.start place undone.is_start numbered)
    ((free_leaf_balances word (leaf_after turned old 0) turned (replanted_alike turned old word tree r).blossoming undone).0 balanced)

-- a tree and a free leaf, from an opening that is replanted at a leaf and the place of its plant from before
pub unplanted_from : (map : RotationSystem) (turned : List ℕ) (old : ℕ) (word : List ℕ) (free place : ℕ) → IsOpening map turned → old < leaves turned → IsReplanted turned old word
    → IsLeafAt (contour word) (leaf_after turned old 0) place → IsFreeLeaf (contour word) free place → free < 2 → IsUnplanted map old word free
unplanted_from map turned old word free place is few r numbered is_free two = record {
  blossoming = (replanted_alike turned old word is.blossoming r).blossoming;
  few = two;
  turned = turned;
  is_anew = anew_back IsFree turned old word free place is.blossoming few r numbered is_free;
  is_opening = is;
}

-- a tree and a free leaf that give a map, with the old plant as the leaf of a number
pub record HasUnplanted (map : RotationSystem) (old_plant : ℕ) : Type 0 where
  pub word : List ℕ
  pub free : ℕ
  pub is : IsUnplanted map old_plant word free

-- each leaf of an opening is the old plant of such a tree
pub opening_unplants : (map : RotationSystem) (turned : List ℕ) (old : ℕ) → IsOpening map turned → old < leaves turned → HasUnplanted map old
opening_unplants map turned old is few =
    let replanted : (word : List ℕ) × IsReplanted turned old word = each_leaf turned old is.blossoming few in
    let undone : IsReplanted replanted.0 (leaf_after turned old 0) turned = replanting_undone turned old replanted.0 is.blossoming replanted.1 in
    let free = has_number (IsFree (contour replanted.0)) (free_marks.two replanted.0 (replanted_alike turned old replanted.0 is.blossoming replanted.1).blossoming) undone.start
    (plant_is_free turned old replanted.0 undone.start is.blossoming is.balanced replanted.1 undone.is_start) in
    record {
      word = replanted.0;
      free = free.number;
      is = unplanted_from map turned old replanted.0 free.number undone.start is few replanted.1 undone.is_start free.is free.low;
    }

-- so a rooted map with a dart and even degrees has one for each number below the leaves of its opening
pub anew_exists : (map : RotationSystem) (old : ℕ) → IsRootedMap map → 0 < length map.sigma → AllAdmitted (structure_of map) (EvenUpTo MAX_DEGREE)
    → ((opening : List ℕ) → IsOpening map opening → old < leaves opening) → HasUnplanted map old
anew_exists map old rooted some even few =
    let opening : (word : List ℕ) × IsOpening map word = each_map_opens map rooted some even in
    opening_unplants map opening.0 old opening.1 (few opening.0 opening.1)

-- and the tree planted anew closes to the canonical map
pub unplanted_closes : (map canonical : RotationSystem) (old : ℕ) (word : List ℕ) (free : ℕ) → IsRootedMap map → IsCanonicalOf map canonical → (is : IsUnplanted map old word free) → IsCanonicalClosure is.turned canonical
unplanted_closes map canonical old word free rooted named is = record {
  closure = is.is_opening.closure;
  is_closure = is.is_opening.is_closure;
  is_canonical = record {
    is_canonical = named.is_canonical;
    is_same = same_transitive (structure_of is.is_opening.closure) (structure_of map) (structure_of canonical)
        (same_symmetric (structure_of map) (structure_of is.is_opening.closure) rooted.structure is.is_opening.same) named.is_same;
  };
}

-- which is the map itself where it is canonical
pub canonical_closes : (map : RotationSystem) (old : ℕ) (word : List ℕ) (free : ℕ) → IsRootedMap map → IsCanonical map → (is : IsUnplanted map old word free) → IsCanonicalClosure is.turned map
canonical_closes map old word free rooted canonical is = unplanted_closes map map old word free rooted (record { is_canonical = canonical; is_same = same_as_itself (structure_of map) }) is

-- of each degree the tree has as many nodes as the map has vertices
module _ (map : RotationSystem) (old : ℕ) (word : List ℕ) (free : ℕ) (rooted : IsRootedMap map) (is : IsUnplanted map old word free) where
  alike : IsAlike word is.turned
  alike = anew_alike word free is.turned old is.blossoming is.is_anew

  pub unplanted_degrees : (degree : ℕ) → nodes_of word degree ≡ vertices_of_degree (structure_of map) degree
  unplanted_degrees degree = sym (kept_degrees map is.turned rooted is.is_opening degree ∙ alike.degrees degree)

-- which of the free leaves the leaf of a number is
pub number_first : (word : List ℕ) (first second leaf place : ℕ) → AreFreeLeaves (contour word) first second → leaf ≡ count LEAF (take first (contour word)) → IsLeafAt (contour word) leaf place → IsFreeLeaf (contour word) 0 place
number_first word first second leaf place two same numbered =
    let here : IsLeafAt (contour word) leaf first = record { here = two.first_is.leaf; before = sym same } in
    subst (IsFreeLeaf (contour word) 0) (one_leaf (contour word) leaf first place here numbered) (earlier_chosen (IsFree (contour word)) (free_two (contour word) first second two))

pub number_second : (word : List ℕ) (first second leaf place : ℕ) → AreFreeLeaves (contour word) first second → (count LEAF (take first (contour word)) ≡ leaf → ⊥) → IsLeafAt (contour word) leaf place → IsFree (contour word) place → IsFreeLeaf (contour word) 1 place
number_second word first second leaf place two other numbered free = elim (two.no_third place free) [
  | inl e ↦ absurd (other (ap (λ (p : ℕ). count LEAF (take p (contour word))) (sym e) ∙ numbered.before))
  | inr e ↦ subst (IsFreeLeaf (contour word) 1) (sym e) (later_chosen (IsFree (contour word)) (free_two (contour word) first second two))
]
