-- Edges numbered by their first places: where places come in twos, the twos are edges, and the places get their darts.
use Rattle.std.specs.Prelude.{◌≡◌, ◌≢◌, ℕ, suc, ◌*◌, ◌<◌, nat_lt, if◌then◌else◌}
use Rattle.pm_perm.specs.Count.{count_below}

-- places below n, each with another one that has it in turn
pub record IsTwinning (n : ℕ) (t : ℕ → ℕ) : Type 0 where
  pub stays : (p : ℕ) → p < n → t p < n
  pub back : (p : ℕ) → p < n → t (t p) ≡ p
  pub other : (p : ℕ) → p < n → t p ≢ p

-- how many edges have their first place before this place
abbrev pub edges_before : (ℕ → ℕ) → ℕ → ℕ
edges_before twin place = count_below (λ p. nat_lt p (twin p)) place

-- the dart of a place, where the first place of the k-th edge, in the order of first places, is dart 2k
abbrev pub dart_of : (ℕ → ℕ) → ℕ → ℕ
dart_of twin p = if nat_lt p (twin p) then 2 * edges_before twin p else suc (2 * edges_before twin (twin p))
