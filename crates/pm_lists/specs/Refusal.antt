-- Why a list is not valid for its bounds.
use Rattle.std.specs.Prelude.{◌≡◌, ◌≢◌, ℕ, List, length, slice_index}
use Rattle.pm_lists.specs.Valid.{IsFirstBroken}
use Rattle.pm_lists.specs.declared.check.ListRefusal.{ListRefusal}
use Rattle.pm_lists.specs.declared.check.ListRefusal.TheVariants.{Length, Entry}

-- the lengths differ: these are the length that the bounds want and the one that the list has
pub record IsWrongLength (values bounds : List ℕ) (want have : ℕ) : Type 0 where
  pub differs : length values ≢ length bounds
  pub wanted : want ≡ length bounds
  pub had : have ≡ length values

-- the lengths are equal, and this is the first place whose entry is not below its bound, with both numbers
pub record IsWrongEntry (values bounds : List ℕ) (place value bound : ℕ) : Type 0 where
  pub as_long : length values ≡ length bounds
  pub first : IsFirstBroken values bounds place
  pub value_is : value ≡ slice_index values place
  pub bound_is : bound ≡ slice_index bounds place

-- the refusal says what is wrong with the list
abbrev pub IsRefusalOf : List ℕ → List ℕ → ListRefusal → Type 0
IsRefusalOf values bounds (Length want have) = IsWrongLength values bounds want have
IsRefusalOf values bounds (Entry place value bound) = IsWrongEntry values bounds place value bound
