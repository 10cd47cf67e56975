-- A table of the degrees of a tree's nodes.
use Rattle.std.specs.Prelude.{◌≡◌, ℕ, suc, List, length, slice_index}
use Rattle.pm_limits.specs.declared.TheConstants.{MAX_DEGREE}
use Rattle.pm_trees.specs.Degrees.{nodes_of}

-- a table of how many nodes have which degree
pub record AreCounts (word counts : List ℕ) : Type 0 where
  pub as_long : length counts ≡ suc MAX_DEGREE
  pub each : (d : ℕ) → slice_index counts d ≡ nodes_of word d
