-- The pairs of a tree are statements on its ring: planting the tree at another leaf keeps them.
use Rattle.std.specs.Prelude.{ℕ, ◌<◌, ◌↔◌, List, length}
use Rattle.pm_trees.specs.Word.{contour}
use Rattle.pm_trees.specs.Blossoming.{IsBlossoming}
use Rattle.pm_trees.specs.Replanted.{IsReplanted}
use Rattle.pm_brackets.specs.Ring.{place_from}
use Rattle.pm_match.specs.Pair.{IsPair, IsFree, IsBalanced}

-- a bud and a leaf of the replanted tree are a pair where they were one, at the old places
abbrev pub PairsAreTurned : Type 0
PairsAreTurned = (word : List ℕ) (leaf : ℕ) (replanted : List ℕ) → IsBlossoming word → (r : IsReplanted word leaf replanted)
    → (p q : ℕ) → p < length (contour word) → q < length (contour word)
    → (IsPair (contour replanted) p q ↔ IsPair (contour word) (place_from (contour word) r.start p) (place_from (contour word) r.start q))

-- so a leaf is free where it was
abbrev pub FreeLeavesAreTurned : Type 0
FreeLeavesAreTurned = (word : List ℕ) (leaf : ℕ) (replanted : List ℕ) → IsBlossoming word → (r : IsReplanted word leaf replanted)
    → (p : ℕ) → p < length (contour word) → (IsFree (contour replanted) p ↔ IsFree (contour word) (place_from (contour word) r.start p))

-- and a tree is balanced where it is planted at a free leaf
abbrev pub FreeLeafBalances : Type 0
FreeLeafBalances = (word : List ℕ) (leaf : ℕ) (replanted : List ℕ) → IsBlossoming word → (r : IsReplanted word leaf replanted)
    → (IsBalanced (contour replanted) ↔ IsFree (contour word) r.start)
