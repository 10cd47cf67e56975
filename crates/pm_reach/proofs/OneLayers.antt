-- A map has one pair of lists as its layers, and the closure of a balanced tree has its levels as distances.
use Rattle.std.proofs.Common.{◌≡◌, ℕ, suc, ◌<◌, ◌≤◌, List, [], length, slice_index, refl, sym, ◌∙◌, ap, arith}
use Rattle.std.proofs.lemmas.List.{same_lists, get_or_default}
use Rattle.pm_perm.proofs.LeastLemmas.{least_is_unique}
use Rattle.pm_map.specs.Structure.{Structure}
use Rattle.pm_map.specs.FaceDistance.{AreInOneFace}
use Rattle.pm_map.specs.Rotation.{RotationSystem, structure_of}
use Rattle.pm_distances.specs.Distances.{AreFaceDistances}
use Rattle.pm_distances.proofs.SameLevels.{one_distance}
use Rattle.pm_open.proofs.KeptByOpening.{closed_levels}
use Rattle.pm_reach.specs.Layers.{Layers, AreParents, LeadsNearer, IsParent, of_root, of_other}
use Rattle.pm_reach.specs.LayerLaws.{MapHasOneLayers, ClosedLevelsAreLayers}

-- lists of one length with the same entries are one list
one_list : (one other : List ℕ) → length one ≡ length other → ((k : ℕ) → k < length one → slice_index one k ≡ slice_index other k) → one ≡ other
one_list one other size same =
    same_lists one other size (λ k d h. get_or_default one k d 0 h ∙ same k h ∙ get_or_default other k 0 d (omega (arith, size)))

-- a map has one list of distances
one_distances : (map : RotationSystem) (one other : List ℕ) → AreFaceDistances map one → AreFaceDistances map other → one ≡ other
one_distances map one other a b =
    one_list one other (a.as_long ∙ sym b.as_long) (λ d h. (let within : d < length map.sigma = omega (arith, a.as_long) in
    one_distance (structure_of map) map.root d (slice_index one d) (slice_index other d) (a.each d within) (b.each d within)))

-- no dart of the root's face leads nearer
root_nearest : (s : Structure) (d dart : ℕ) → AreInOneFace s s.root d → LeadsNearer s d dart → ⊥
root_nearest s d dart at_root near =
    let none : suc near.distance ≤ 0 = near.here.least [] at_root in
    omega (arith, none)

-- a face has one parent
one_parent : (s : Structure) (d a b : ℕ) → IsParent s d a → IsParent s d b → a ≡ b
one_parent s d a b (of_root at_root) (of_root again) = refl
one_parent s d a b (of_root at_root) (of_other dart least) = absurd (root_nearest s d b at_root least.breaks)
one_parent s d a b (of_other dart least) (of_root at_root) = absurd (root_nearest s d a at_root least.breaks)
one_parent s d a b (of_other dart least) (of_other other least_other) =
    least_is_unique s.darts (λ e. LeadsNearer s d e → ⊥) (LeadsNearer s d) (λ k none near. none near) a b least least_other

one_parents : (s : Structure) (one other : List ℕ) → AreParents s one → AreParents s other → one ≡ other
one_parents s one other a b =
    one_list one other (a.as_long ∙ sym b.as_long) (λ d h. (let within : d < s.darts = omega (arith, a.as_long) in
    one_parent s d (slice_index one d) (slice_index other d) (a.each d within) (b.each d within)))

abbrev layers_of : List ℕ → List ℕ → Layers
layers_of distances parents = record { distances = distances; parents = parents }

pub one_layers : MapHasOneLayers
one_layers map one other is a b =
    ap (λ distances. layers_of distances one.parents) (one_distances map one.distances other.distances a.distances b.distances)
    ∙ ap (λ parents. layers_of other.distances parents) (one_parents (structure_of map) one.parents other.parents a.parents b.parents)

pub closed_layers : ClosedLevelsAreLayers
closed_layers word closed layers is closes a = one_distances closed.map layers.distances closed.levels a.distances (closed_levels word closed is closes)
