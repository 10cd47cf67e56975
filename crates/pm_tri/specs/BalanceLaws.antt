-- A stem tree is balanced, or there is one reason why it isn't.
use Rattle.std.specs.Prelude.{◌≡◌, List, ℕ, Option}
use Rattle.pm_tri.specs.declared.balance.Imbalance.{Imbalance}
use Rattle.pm_tri.specs.Balance.{IsWhyNotBalanced}
use Rattle.pm_tri.specs.StemTree.{IsStemTree, contour}

abbrev pub HasOneReason : Type 0
HasOneReason = (word : List ℕ) (first second : Option Imbalance) → IsStemTree word → IsWhyNotBalanced (contour word) first → IsWhyNotBalanced (contour word) second → first ≡ second

-- that none of all answers is one, can't be
abbrev pub HasSomeReason : Type 0
HasSomeReason = (word : List ℕ) → IsStemTree word → ((reason : Option Imbalance) → IsWhyNotBalanced (contour word) reason → ⊥) → ⊥
