-- The closure of a balanced stem tree, told by its whole tree, in which each stem closes ahead at a side.
use Rattle.std.specs.Prelude.{ℕ, suc, ◌%◌, ◌<◌, ◌≡◌, List, length, slice_index}
use Rattle.pm_map.specs.Structure.{Structure}
use Rattle.pm_tri.specs.declared.letters.TheConstants.{STEM}
use Rattle.pm_tri.specs.Whole.{IsAhead}
use Rattle.pm_triclose.specs.Closure.{AreNumbers, AreTwins, Dart, FollowsPlace, IsBehind, a_to_b, at_place, b_to_a, twin_of}

-- the places, and a twin for each stem, and no others
abbrev pub IsWholeDart : List ℕ → Dart → Type 0
IsWholeDart places (at_place p) = p < length places
IsWholeDart places (twin_of stem) = slice_index places stem ≡ STEM
IsWholeDart places a_to_b = ⊥
IsWholeDart places b_to_a = ⊥

-- behind the twin of a stem come those of the further stems that close at the same side, and then the place behind that side
pub record FollowsWholeTwin (places : List ℕ) (stem : ℕ) (dart : Dart) : Type 0 where
  pub side : ℕ
  pub closes : IsAhead places stem side
  pub behind : IsBehind (λ (x : ℕ). IsAhead places x side) (at_place (suc side % length places)) stem dart

abbrev pub FollowsWhole : List ℕ → Dart → Dart → Type 0
FollowsWhole places (at_place p) dart = FollowsPlace places (IsAhead places) p dart
FollowsWhole places (twin_of stem) dart = FollowsWholeTwin places stem dart
FollowsWhole places a_to_b dart = ⊥
FollowsWhole places b_to_a dart = ⊥

-- the closure of a whole tree
abbrev pub IsWholeClosure : List ℕ → Structure → Type 0
IsWholeClosure places s = (number : Dart → ℕ) × AreNumbers (IsWholeDart places) (FollowsWhole places) (AreTwins places) s number

-- each stem closes ahead
abbrev pub ClosesAhead : List ℕ → Type 0
ClosesAhead places = (x : ℕ) → slice_index places x ≡ STEM → (q : ℕ) × IsAhead places x q
