-- Why a stem tree isn't balanced.
use Rattle.std.specs.Prelude.{ℕ, List, Option, Some, None}
use Rattle.pm_tri.specs.declared.balance.Imbalance.{Imbalance}
use Rattle.pm_tri.specs.declared.balance.Imbalance.TheVariants.{Closes, Follows}
use Rattle.pm_tri.specs.Runs.{IsBalanced, IsClosing, IsFreeBefore}

-- the free stem before the plant, which is free and doesn't follow it directly
pub record IsFollowing (places : List ℕ) (stem : ℕ) : Type 0 where
  pub apart : ℕ
  pub is_before : IsFreeBefore places stem apart 0
  pub not_directly : IsBalanced places → ⊥

-- nothing where the tree is balanced; else the side at which the plant closes, or the free stem before the plant
abbrev pub IsWhyNotBalanced : List ℕ → Option Imbalance → Type 0
IsWhyNotBalanced places None = IsBalanced places
IsWhyNotBalanced places (Some (Closes side)) = IsClosing places 0 side
IsWhyNotBalanced places (Some (Follows stem)) = IsFollowing places stem
