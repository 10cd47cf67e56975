-- Names for the darts by the order of first mention.
use Rattle.std.specs.Prelude.{◌≡◌, ◌≢◌, ℕ, ◌+◌, ◌*◌, ◌<◌, ◌≤◌, Bool, List, length, take, slice_index, slice_set, Contains}
use Rattle.pm_map.specs.Rotation.{twin}
use Rattle.pm_map.specs.Canonical.{first_mentions}
use Rattle.pm_canon.specs.steps.Kept.{MarksDarts}

-- the k-th edge in the order of first mention has that mention named 2k, and its twin 2k+1
pub record NamesMentions (darts names : List ℕ) : Type 0 where
  pub mention : (k : ℕ) → k < length (first_mentions darts) → slice_index names (slice_index (first_mentions darts) k) ≡ 2 * k
  pub other : (k : ℕ) → k < length (first_mentions darts) → slice_index names (twin (slice_index (first_mentions darts) k)) ≡ 2 * k + 1

-- the darts so far are seen, their edges are named, and this name is the next
pub record IsNaming (darts : List ℕ) (seen : List Bool) (names : List ℕ) (name : ℕ) : Type 0 where
  pub next : name ≡ 2 * length (first_mentions darts)
  pub marking : MarksDarts seen darts
  pub named : NamesMentions darts names

-- no dart has a name; the greatest number of 32 bits stands for none
pub record AreUnnamed (names : List ℕ) : Type 0 where
  pub each : (d : ℕ) → d < length names → slice_index names d ≡ 4294967295

-- the edge of the dart has its name: it had it, or it has the next one
pub data NamesEdge (dart name : ℕ) (old new : List ℕ) (next : ℕ) : Type 0 where
  had : slice_index old dart ≢ 4294967295 → new ≡ old → next ≡ name → NamesEdge dart name old new next
  given : slice_index old dart ≡ 4294967295 → new ≡ slice_set (slice_set old dart name) (twin dart) (name + 1) → next ≡ name + 2 → NamesEdge dart name old new next

-- the first darts are named, and the others are as they were
pub record AreNamed (names old new : List ℕ) (count : ℕ) : Type 0 where
  pub named : (k : ℕ) → k < count → slice_index new k ≡ slice_index names (slice_index old k)
  pub kept : (k : ℕ) → count ≤ k → slice_index new k ≡ slice_index old k

-- the first darts are seen, and their edges are named; the name of an edge tells whether a dart of it is seen
pub record IsNamingList (old new names : List ℕ) (place name : ℕ) : Type 0 where
  pub seen : List Bool
  pub seen_size : length seen ≡ length names
  pub naming : IsNaming (take place old) seen names name
  pub unnamed : (d : ℕ) → d < length names → slice_index names d ≡ 4294967295 → Contains (take place old) (twin d) → ⊥
  pub standing : (d : ℕ) → Contains (take place old) d → slice_index names d ≢ 4294967295
  pub named : (d : ℕ) → d < length names → slice_index names d ≢ 4294967295 → (Contains (take place old) d → ⊥) → Contains (take place old) (twin d)
  pub rewritten : AreNamed names old new place

-- the rotation of the renamed map: the name of a dart is followed by the name of the next dart
pub record IsRenamed (names old new : List ℕ) : Type 0 where
  pub size : length new ≡ length old
  pub carried : (d : ℕ) → d < length old → slice_index new (slice_index names d) ≡ slice_index names (slice_index old d)
