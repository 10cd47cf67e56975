-- The objects of a plane tree, for each node and each leaf one: the numbers from 0 on. The first ones are nodes and come in
-- ranges, in each of which all have as many children, their arity; the objects behind the ranges are leaves, of arity 0.
use Rattle.std.specs.Prelude.{◌≡◌, ℕ, ◌<◌, ◌==◌, ℤ, List, length, map, filter, flat_map, replicate, slice_index_or}
use Rattle.pm_words.specs.Plane.{letter_of}

-- the range at a place: an arity, and how many objects have it; past the end the range of no objects
abbrev pub range_at : List (ℕ × ℕ) → ℕ → ℕ × ℕ
range_at ranges k = slice_index_or ranges k (0, 0)

-- the arities of the node objects
abbrev pub arities_of : List (ℕ × ℕ) → List ℕ
arities_of ranges = flat_map (λ (r : ℕ × ℕ). replicate r.1 r.0) ranges

-- how many nodes there are
abbrev pub nodes_of_ranges : List (ℕ × ℕ) → ℕ
nodes_of_ranges ranges = length (arities_of ranges)

-- the arity of an object
abbrev pub arity_of : List ℕ → ℕ → ℕ
arity_of arities object = slice_index_or arities object 0

-- the word of the objects: the arity of each, less one
abbrev pub letters_of : List ℕ → List ℕ → List ℤ
letters_of arities objects = map (λ object. letter_of (arity_of arities object)) objects

-- the objects of this arity, as they come
abbrev pub objects_of : List ℕ → ℕ → List ℕ → List ℕ
objects_of arities arity objects = filter (λ object. arity_of arities object == arity) objects

-- each range has another arity, and none has 0
pub record AreApart (ranges : List (ℕ × ℕ)) : Type 0 where
  pub some : (k : ℕ) → k < length ranges → 0 < (range_at ranges k).0
  pub apart : (j k : ℕ) → j < k → k < length ranges → (range_at ranges j).0 ≡ (range_at ranges k).0 → ⊥
