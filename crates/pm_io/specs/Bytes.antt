-- What a call does to the bytes that a source has left and that a sink holds. Each is told (`Some`) or not (`None`);
-- what isn't told stays so, and nothing is claimed of it.
use Rattle.std.specs.Prelude.{◌≡◌, ℕ, ◌≤◌, List, [], ◌++◌, length, take, drop, Option, None, Some}

-- the bytes that were held, and then these
abbrev pub added : Option (List ℕ) → List ℕ → Option (List ℕ)
added None piece = None
added (Some held) piece = Some (held ++ piece)

-- the bytes that were left, without the first k
abbrev pub without : ℕ → Option (List ℕ) → Option (List ℕ)
without k None = None
without k (Some bytes) = Some (drop k bytes)

-- The first k bytes of the buffer are the first k of those left; there are so many, and none are taken only at the end.
pub record TakesPrefix (k : ℕ) (bytes buffer : List ℕ) : Type 0 where
  pub within : k ≤ length bytes
  pub prefix : take k buffer ≡ take k bytes
  pub end : k ≡ 0 → bytes ≡ []
