-- The objects that a map with a given profile is made of: a node object for each node, with half of the node's degree as
-- its arity, its half degree, and leaf objects. The node objects are numbered from 0 in rising order of degree, and the leaf
-- objects after them; with e edges there are e + 1 objects (Schaeffer 1997).
use Rattle.std.specs.Prelude.{ℕ, suc, ◌-◌, ◌/◌, ◌==◌, List, length, map, slice_index_or, if◌then◌else◌}
use Rattle.pm_trees.specs.Pairs.{edges_of}
use Rattle.pm_objects.specs.Objects.{arities_of, arity_of}
use Rattle.pm_planting.specs.Kinds.{IsWordOfKinds}
use Rattle.pm_planting.specs.declared.kind.Kind.{Kind}
use Rattle.pm_planting.specs.declared.kind.Kind.TheVariants.{Leaf, Node}

-- a range of objects for each degree
abbrev pub ranges_of : List (ℕ × ℕ) → List (ℕ × ℕ)
ranges_of pairs = map (λ (p : ℕ × ℕ). (p.0 / 2, p.1)) pairs

-- the half degrees of the node objects
abbrev pub halves_of : List (ℕ × ℕ) → List ℕ
halves_of pairs = arities_of (ranges_of pairs)

-- how many nodes there are
abbrev pub nodes_of_profile : List (ℕ × ℕ) → ℕ
nodes_of_profile pairs = length (halves_of pairs)

-- how many leaf objects there are
abbrev pub leaves_of_profile : List (ℕ × ℕ) → ℕ
leaves_of_profile pairs = suc (edges_of pairs) - nodes_of_profile pairs

-- the kind of an object, where the half degrees and the ranks are those of the node objects
abbrev pub kind_of : List ℕ → List ℕ → ℕ → Kind
kind_of halves ranks object = if arity_of halves object == 0 then Leaf else Node (arity_of halves object) (slice_index_or ranks object 0)

-- the kinds of the objects
abbrev pub kinds_of : List ℕ → List ℕ → List ℕ → List Kind
kinds_of halves ranks objects = map (kind_of halves ranks) objects

-- the word of the blossoming tree whose objects in preorder are these
abbrev pub IsPlantedPlane : List ℕ → List ℕ → List ℕ → List ℕ → Type 0
IsPlantedPlane halves ranks objects word = IsWordOfKinds (kinds_of halves ranks objects) word
