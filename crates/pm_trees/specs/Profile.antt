-- Profiles: which degrees the nodes of a tree have, and how many nodes have each of them. A profile is a list of pairs of
-- a degree and a count, in rising order of the degree.
use Rattle.std.specs.Prelude.{◌≡◌, ℕ, ◌<◌, List, Result, Ok, Err, ⊤}
use Rattle.pm_limits.specs.declared.TheConstants.{MAX_EDGES}
use Rattle.pm_trees.specs.declared.profile.Profile.{Profile}
use Rattle.pm_trees.specs.declared.profile.ProfileRefusal.{ProfileRefusal}
use Rattle.pm_trees.specs.declared.profile.ProfileRefusal.TheVariants.{Memory, Pair, TooMany}
use Rattle.pm_brackets.specs.First.{IsFirst}
use Rattle.pm_trees.specs.Degrees.{AreListed}
use Rattle.pm_trees.specs.Pairs.{ArePairs, BreaksPair, IsProfile, edges_of}

-- every pair is right, but the nodes have more edges than a map may have: how many
pub record HasTooMany (pairs : List (ℕ × ℕ)) (edges : ℕ) : Type 0 where
  pub are_pairs : ArePairs pairs
  pub counted : edges ≡ edges_of pairs
  pub many : MAX_EDGES < edges

-- The answer to a list of pairs: the profile, or the first rule that the list breaks. Want of memory may come at any list.
abbrev pub IsProfileAnswer : List (ℕ × ℕ) → Result Profile ProfileRefusal → Type 0
IsProfileAnswer pairs (Ok profile) = (profile ≡ pairs) × IsProfile pairs
IsProfileAnswer pairs (Err (Pair place)) = IsFirst (BreaksPair pairs) place
IsProfileAnswer pairs (Err (TooMany edges)) = HasTooMany pairs edges
IsProfileAnswer pairs (Err Memory) = ⊤

-- The answer to a table of counts: that to the pairs of the degrees from 1 on that have a count, in rising order, with
-- their counts. Want of memory may come at any table.
abbrev pub IsTableAnswer : List ℕ → Result Profile ProfileRefusal → Type 0
IsTableAnswer counts (Ok profile) = AreListed counts profile × IsProfile profile
IsTableAnswer counts (Err (Pair place)) = (pairs : List (ℕ × ℕ)) × AreListed counts pairs × IsFirst (BreaksPair pairs) place
IsTableAnswer counts (Err (TooMany edges)) = (pairs : List (ℕ × ℕ)) × AreListed counts pairs × HasTooMany pairs edges
IsTableAnswer counts (Err Memory) = ⊤

-- A list of pairs has one answer, but for want of memory: so each refusal comes exactly where its rule is the first that
-- fails.
abbrev pub PairsHaveOneAnswer : Type 0
PairsHaveOneAnswer =
    (pairs : List (ℕ × ℕ)) (first second : Result Profile ProfileRefusal) → IsProfileAnswer pairs first → IsProfileAnswer pairs second
    → (first ≡ Err Memory → ⊥) → (second ≡ Err Memory → ⊥) → first ≡ second

-- and so has a table of counts
abbrev pub TableHasOneAnswer : Type 0
TableHasOneAnswer =
    (counts : List ℕ) (first second : Result Profile ProfileRefusal) → IsTableAnswer counts first → IsTableAnswer counts second
    → (first ≡ Err Memory → ⊥) → (second ≡ Err Memory → ⊥) → first ≡ second
