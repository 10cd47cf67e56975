-- The word of a profile: its pairs, each as the degree, a colon and the count, with single commas between.
use Rattle.std.specs.Prelude.{ℕ, ◌<◌, ◌^◌, List, length}
use Rattle.std.specs.List.{AllByRecursion}
pub use Rattle.pm_mapfile.specs.ProfileText.{colon, comma, pair_text, profile_text}

-- a degree and a count of 32 bits
pub record IsPairOfWords (pair : ℕ × ℕ) : Type 0 where
  pub degree : pair.0 < 2 ^ 32
  pub count : pair.1 < 2 ^ 32

-- some such pairs
pub record ArePairsOfWords (pairs : List (ℕ × ℕ)) : Type 0 where
  pub some : 0 < length pairs
  pub each : AllByRecursion IsPairOfWords pairs
