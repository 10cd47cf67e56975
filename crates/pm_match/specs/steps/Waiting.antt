-- A list of pairs of which some wait for their leaf, and a stack with the indices of those.
use Rattle.std.specs.Prelude.{◌≡◌, ℕ, ◌-◌, ◌<◌, List, [], ◌∷◌, ◌++◌, length, slice_index, slice_index_or, slice_set, take}

-- the bud of the k-th pair
unfoldable pub bud_at : List (ℕ × ℕ) → ℕ → ℕ
bud_at pairs k = (slice_index_or pairs k (0, 0)).0

-- the pairs with the leaf of the k-th written
unfoldable pub with_leaf : List (ℕ × ℕ) → ℕ → ℕ → List (ℕ × ℕ)
with_leaf pairs k leaf = slice_set pairs k (bud_at pairs k, leaf)

-- the index at the top of the stack
unfoldable pub top_of : List ℕ → ℕ
top_of stack = slice_index stack (length stack - 1)

-- a pair with its bud alone is listed and waits
pub record Opens (pairs after : List (ℕ × ℕ)) (stack more : List ℕ) (place : ℕ) : Type 0 where
  pub opened : after ≡ pairs ++ (place, 0) ∷ []
  pub stacked : more ≡ stack ++ length pairs ∷ []

-- the pair at the top of the stack has its leaf, and no longer waits
pub record Meets (pairs after : List (ℕ × ℕ)) (stack rest : List ℕ) (place : ℕ) : Type 0 where
  pub some : 0 < length stack
  pub completed : after ≡ with_leaf pairs (top_of stack) place
  pub popped : rest ≡ take (length stack - 1) stack

-- no pair waits, and all is as before
pub record Passes (pairs after : List (ℕ × ℕ)) (stack rest : List ℕ) : Type 0 where
  pub none : length stack ≡ 0
  pub same_pairs : after ≡ pairs
  pub same_stack : rest ≡ stack
