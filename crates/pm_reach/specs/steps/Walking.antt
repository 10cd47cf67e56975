-- What is known while a list gives way to the next one, and while the bounds are multiplied.
use Rattle.std.specs.Prelude.{◌≡◌, ℕ, suc, ◌+◌, ◌-◌, ◌*◌, ◌<◌, ◌≤◌, List, [], ◌∷◌, ◌++◌, map, length, slice_index, drop}
use Rattle.pm_reach.specs.Census.{product, lists_beginning, valid_lists}

-- The entries from the place on were the greatest below their bounds, and are zeros now. Those before it stay.
pub record IsCarried (bounds values now : List ℕ) (place : ℕ) : Type 0 where
  pub within : place ≤ length values
  pub as_long : length now ≡ length values
  pub before : (earlier : ℕ) → earlier < place → slice_index now earlier ≡ slice_index values earlier
  pub greatest : (later : ℕ) → place ≤ later → later < length values → slice_index values later + 1 ≡ slice_index bounds later
  pub zeros : (later : ℕ) → place ≤ later → later < length values → slice_index now later ≡ 0

-- the product of the bounds is this number times that of the bounds from the place on
pub record IsMultiplied (bounds : List ℕ) (place count : ℕ) : Type 0 where
  pub whole : count * product (drop place bounds) ≡ product bounds

-- the valid lists behind this one, in dictionary order: those that have its first entry, and then those with a greater one
abbrev pub lists_after : List ℕ → List ℕ → List (List ℕ)
lists_after [] values = []
lists_after (bound ∷ bounds) [] = []
lists_after (bound ∷ bounds) (value ∷ values) =
    map (λ rest. value ∷ rest) (lists_after bounds values) ++ lists_beginning (suc value) (bound - suc value) (valid_lists bounds)
