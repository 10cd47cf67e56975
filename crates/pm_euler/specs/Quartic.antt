-- Which map and which residue a list of choices gives: quartic maps (Schaeffer 1997; Rémy 1985 for the binary tree).
use Rattle.std.specs.Prelude.{◌≡◌, ℕ, ◌*◌, ◌<◌, ◌≤◌, List, [], ◌∷◌, take, drop}
use Rattle.pm_limits.specs.declared.TheConstants.{MAX_EDGES}
use Rattle.pm_lehmer.specs.Lehmer.{code_of}
use Rattle.pm_remy.specs.Tree.{labels_of}
use Rattle.pm_remy.specs.Growth.{grown}
use Rattle.pm_map.specs.Rotation.{RotationSystem}
use Rattle.pm_euler.specs.Bounds.{quartic_prefixes}
use Rattle.pm_euler.specs.Planted.{IsPlanted}
use Rattle.pm_euler.specs.Sampled.{SamplesByTree}

-- the sizes: from 1, and with no more edges than a map may have
pub record IsQuarticSize (n : ℕ) : Type 0 where
  pub some : 0 < n
  pub few : 2 * n ≤ MAX_EDGES

-- the nodes: as many as the size, each of degree 4
abbrev pub quartic_pairs : ℕ → List (ℕ × ℕ)
quartic_pairs n = (4, n) ∷ []

-- The first n numbers grow a binary tree with labels; the next n are the patterns of its forks in preorder. The rest is the
-- arrangement code of the labels from left to right.
pub record MakesQuartic (n : ℕ) (prefix word rest : List ℕ) : Type 0 where
  pub is_planted : IsPlanted (grown (take n prefix)) (drop n prefix) word
  pub rest_is : rest ≡ code_of (labels_of (grown (take n prefix)))

-- the residue is the number of the old plant, and the rest
abbrev pub SamplesQuartic : ℕ → List ℕ → RotationSystem → List ℕ → Type 0
SamplesQuartic n choices map residue = SamplesByTree (quartic_prefixes n) (MakesQuartic n) (λ rest old_plant. old_plant ∷ rest) choices map residue
