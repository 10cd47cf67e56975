-- All pairs of a contour, and its two free leaves.
use Rattle.std.specs.Prelude.{◌≡◌, ℕ, ◌<◌, ◌⊎◌, List, slice_index, slice_get, Some}
use Rattle.pm_trees.specs.declared.letters.TheConstants.{LEAF, BUD}
use Rattle.pm_match.specs.Pair.{IsPair}
use Rattle.pm_match.specs.FreeLeaves.{AreFreeLeaves}

-- the list of pairs, the bud before its leaf, and the two free leaves
pub record Pairs : Type 0 where
  pub pairs : List (ℕ × ℕ)
  pub first_free : ℕ
  pub second_free : ℕ

-- The list has exactly the pairs, in rising order of the bud. Each bud is in one pair, and so is each leaf but the two free
-- leaves, which are given in rising order.
pub record IsPairing (places : List ℕ) (found : Pairs) : Type 0 where
  pub sound : (k p q : ℕ) → slice_get found.pairs k ≡ Some (p, q) → IsPair places p q
  pub whole : (p q : ℕ) → IsPair places p q → (k : ℕ) × (slice_get found.pairs k ≡ Some (p, q))
  pub rising : (j k p q r s : ℕ) → j < k → slice_get found.pairs j ≡ Some (p, q) → slice_get found.pairs k ≡ Some (r, s) → p < r
  pub each_bud : (p : ℕ) → slice_index places p ≡ BUD → (q : ℕ) × IsPair places p q
  pub one_leaf : (p q r : ℕ) → IsPair places p q → IsPair places p r → q ≡ r
  pub each_leaf : (q : ℕ) → slice_index places q ≡ LEAF → ((p : ℕ) × IsPair places p q) ⊎ ((q ≡ found.first_free) ⊎ (q ≡ found.second_free))
  pub one_bud : (p q r : ℕ) → IsPair places p r → IsPair places q r → p ≡ q
  pub free : AreFreeLeaves places found.first_free found.second_free
