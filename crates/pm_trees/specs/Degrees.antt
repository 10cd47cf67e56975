-- How many nodes of a tree have which degree, and the profile that says so.
use Rattle.std.specs.Prelude.{◌≡◌, ℕ, zero, suc, ◌+◌, ◌<◌, Bool, ◌==◌, ◌&&◌, ◌||◌, List, length, slice_index, if◌then◌else◌}
use Rattle.pm_brackets.specs.declared.letters.TheConstants.{OPEN}
use Rattle.pm_trees.specs.Word.{contour}
use Rattle.pm_trees.specs.Node.{degree}
use Rattle.pm_trees.specs.Pairs.{IsProfile, degree_before, pair_at}

-- the place names a node of this degree
abbrev pub has_degree : List ℕ → ℕ → ℕ → Bool
has_degree places d node = ((node == 0) || (slice_index places node == OPEN)) && (degree places node == d)

-- the nodes of this degree that are named by a place before the n-th
abbrev pub nodes_before : List ℕ → ℕ → ℕ → ℕ
nodes_before places d zero = 0
nodes_before places d (suc n) = nodes_before places d n + (if has_degree places d n then 1 else 0)

-- the nodes of this degree
abbrev pub nodes_of : List ℕ → ℕ → ℕ
nodes_of word d = nodes_before (contour word) d (length (contour word))

-- the pairs of a table: the numbers from 1 on that have a count other than 0, in rising order, with their counts
pub record AreListed (counts : List ℕ) (pairs : List (ℕ × ℕ)) : Type 0 where
  pub rising : (k : ℕ) → k < length pairs → degree_before pairs k < (pair_at pairs k).0
  pub some : (k : ℕ) → k < length pairs → 0 < (pair_at pairs k).1
  pub counted : (k : ℕ) → k < length pairs → (pair_at pairs k).1 ≡ slice_index counts (pair_at pairs k).0
  pub all : (d : ℕ) → 0 < d → 0 < slice_index counts d → (k : ℕ) × (k < length pairs) × ((pair_at pairs k).0 ≡ d)

-- The profile of a tree: the degrees that some node has, in rising order, and of each how many nodes have it.
pub record IsProfileOf (word : List ℕ) (pairs : List (ℕ × ℕ)) : Type 0 where
  pub is_profile : IsProfile pairs
  pub counted : (k : ℕ) → k < length pairs → (pair_at pairs k).1 ≡ nodes_of word (pair_at pairs k).0
  pub all : (d : ℕ) → 0 < nodes_of word d → (k : ℕ) × (k < length pairs) × ((pair_at pairs k).0 ≡ d)
