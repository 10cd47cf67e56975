-- Simple maps: no loop, and no two edges with the same ends.
use Rattle.std.specs.Prelude.{◌≢◌, ℕ, ◌<◌, ◌⊎◌}
use Rattle.pm_perm.specs.Cycles.{IsInCycle}
use Rattle.pm_perm.specs.Least.{IsLeast}
use Rattle.pm_map.specs.declared.simple.NotSimple.{NotSimple}
use Rattle.pm_map.specs.declared.simple.NotSimple.TheVariants.{Loop, Double}
use Rattle.pm_map.specs.Structure.{Structure}

-- two darts are at one vertex: the second is met from the first around the vertex
abbrev pub AreAtOneVertex : Structure → ℕ → ℕ → Type 0
AreAtOneVertex s d e = IsInCycle s.next d e

-- the edge of the dart is a loop: the twin of the dart is at the same vertex
abbrev pub IsLoop : Structure → ℕ → Type 0
IsLoop s d = AreAtOneVertex s d (s.twin d)

-- the edges of two darts have the same ends, taken the one way or the other
abbrev pub HaveSameEnds : Structure → ℕ → ℕ → Type 0
HaveSameEnds s d e =
    (AreAtOneVertex s d e × AreAtOneVertex s (s.twin d) (s.twin e)) ⊎ (AreAtOneVertex s d (s.twin e) × AreAtOneVertex s (s.twin d) e)

-- no edge is a loop, and no two different edges have the same ends
pub record IsSimple (s : Structure) : Type 0 where
  pub no_loop : (d : ℕ) → d < s.darts → IsLoop s d → ⊥
  pub no_double : (d e : ℕ) → d < s.darts → e < s.darts → e ≢ d → e ≢ s.twin d → HaveSameEnds s d e → ⊥

-- the edge of the dart has a double: another dart has the same vertex and the same far vertex
pub record IsDouble (s : Structure) (d : ℕ) : Type 0 where
  pub other : ℕ
  pub within : other < s.darts
  pub differs : other ≢ d
  pub near : AreAtOneVertex s d other
  pub far : AreAtOneVertex s (s.twin d) (s.twin other)

-- no dart's edge is a loop, and the least one whose edge is
abbrev pub HasNoLoop : Structure → Type 0
HasNoLoop s = (d : ℕ) → d < s.darts → IsLoop s d → ⊥

abbrev pub IsLeastLoop : Structure → ℕ → Type 0
IsLeastLoop s d = IsLeast s.darts (λ e. IsLoop s e → ⊥) (IsLoop s) d

-- no dart's edge has a double, and the least one whose edge has
abbrev pub HasNoDouble : Structure → Type 0
HasNoDouble s = (d : ℕ) → d < s.darts → IsDouble s d → ⊥

abbrev pub IsLeastDouble : Structure → ℕ → Type 0
IsLeastDouble s d = IsLeast s.darts (λ e. IsDouble s e → ⊥) (IsDouble s) d

-- why a structure isn't simple: the least loop, or the least double where there is no loop
abbrev pub IsNotSimple : Structure → NotSimple → Type 0
IsNotSimple s (Loop dart) = IsLeastLoop s dart
IsNotSimple s (Double dart) = HasNoLoop s × IsLeastDouble s dart
