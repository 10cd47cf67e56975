-- The text of a list of pairs, as it tells the degrees of a map: each pair is its two numbers with a colon between, and
-- single commas stand between pairs.
use Rattle.std.specs.Prelude.{ℕ, List, ◌∷◌, ◌++◌, map, decimal}
use Rattle.std.specs.List.{join_with_byte}

-- the byte between a degree and a count
abbrev pub colon : ℕ
colon = 58

-- the byte between two pairs
abbrev pub comma : ℕ
comma = 44

abbrev pub pair_text : ℕ × ℕ → List ℕ
pair_text pair = decimal pair.0 ++ colon ∷ decimal pair.1

abbrev pub profile_text : List (ℕ × ℕ) → List ℕ
profile_text pairs = join_with_byte comma (map pair_text pairs)
