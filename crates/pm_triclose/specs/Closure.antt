-- The closure of a balanced stem tree (Poulalhon and Schaeffer 2006): each stem becomes an edge. Its darts are named by the places
-- of the contour and by the stems whose twins they are, and may have any numbers.
use Rattle.std.specs.Prelude.{◌≡◌, ◌≢◌, ℕ, suc, ◌%◌, ◌<◌, List, length, slice_index, ⊤}
use Rattle.pm_brackets.specs.Ring.{AreBrackets}
use Rattle.pm_map.specs.Structure.{Structure}
use Rattle.pm_tri.specs.declared.letters.TheConstants.{STEM}
use Rattle.pm_tri.specs.Runs.{IsClosing, IsInRun, IsRunStart}

-- the names of the darts; A and B are the two vertices that are added, for the plant's run and for the other one
pub data Dart : Type 0 where
  -- that of a stem or of a bracket, which goes along the bracket's edge
  at_place : ℕ → Dart
  -- the twin of a stem's
  twin_of : ℕ → Dart
  a_to_b : Dart
  b_to_a : Dart

-- the places of the contour, and a twin for each stem
abbrev pub IsDart : List ℕ → Dart → Type 0
IsDart places (at_place p) = p < length places
IsDart places (twin_of stem) = slice_index places stem ≡ STEM
IsDart places a_to_b = ⊤
IsDart places b_to_a = ⊤

-- The twins of some stems stand one behind another, that of the last stem first, and then comes another dart. Places count from the
-- beginning of the contour, past whose end no stem of a balanced tree closes. So behind the twin
-- of a stem, or at the beginning, for the contour's end in place of a stem, comes the twin of the last of these stems before it;
-- and where there is none, that other dart.
pub data IsBehind (IsAmong : ℕ → Type 0) (other : Dart) (bound : ℕ) (dart : Dart) : Type 0 where
  next_twin : (stem : ℕ) → stem < bound → IsAmong stem → ((x : ℕ) → stem < x → x < bound → IsAmong x → ⊥) → dart ≡ twin_of stem → IsBehind IsAmong other bound dart
  no_more : ((x : ℕ) → x < bound → IsAmong x → ⊥) → dart ≡ other → IsBehind IsAmong other bound dart

-- behind a stem comes the next place; behind a bracket the twins of the stems that close at the other bracket of its edge, that of
-- the stem nearest before it first, and then the place behind that bracket
pub data FollowsPlace (places : List ℕ) (Closes : ℕ → ℕ → Type 0) (p : ℕ) (dart : Dart) : Type 0 where
  from_stem : slice_index places p ≡ STEM → dart ≡ at_place (suc p % length places) → FollowsPlace places Closes p dart
  from_bracket : (q : ℕ) → AreBrackets places p q → IsBehind (λ (x : ℕ). Closes x q) (at_place (suc q % length places)) (length places) dart → FollowsPlace places Closes p dart

-- behind the twin of a stem those of the further stems that close at the same side, or that are of the same run
pub data FollowsTwin (places : List ℕ) (stem : ℕ) (dart : Dart) : Type 0 where
  at_side : (q : ℕ) → IsClosing places stem q → IsBehind (λ (x : ℕ). IsClosing places x q) (at_place (suc q % length places)) stem dart → FollowsTwin places stem dart
  at_a : IsInRun places 0 stem → IsBehind (IsInRun places 0) a_to_b stem dart → FollowsTwin places stem dart
  at_b : (start : ℕ) → start ≢ 0 → IsInRun places start stem → IsBehind (IsInRun places start) b_to_a stem dart → FollowsTwin places stem dart

-- behind the dart of B that goes to A come the twins of the run that doesn't start at the plant, that of its last stem first
pub record FollowsB (places : List ℕ) (dart : Dart) : Type 0 where
  pub start : ℕ
  pub is_other : start ≢ 0
  pub starts : IsRunStart places start
  pub behind : IsBehind (IsInRun places start) b_to_a (length places) dart

-- which dart comes next around its vertex: at A the twins of the plant's run, that of its last stem first, and then the dart to B
abbrev pub Follows : List ℕ → Dart → Dart → Type 0
Follows places (at_place p) dart = FollowsPlace places (IsClosing places) p dart
Follows places (twin_of stem) dart = FollowsTwin places stem dart
Follows places a_to_b dart = IsBehind (IsInRun places 0) a_to_b (length places) dart
Follows places b_to_a dart = FollowsB places dart

pub data IsTwinOfPlace (places : List ℕ) (p : ℕ) (dart : Dart) : Type 0 where
  of_stem : slice_index places p ≡ STEM → dart ≡ twin_of p → IsTwinOfPlace places p dart
  of_bracket : (q : ℕ) → AreBrackets places p q → dart ≡ at_place q → IsTwinOfPlace places p dart

-- the two darts of an edge
abbrev pub AreTwins : List ℕ → Dart → Dart → Type 0
AreTwins places (at_place p) dart = IsTwinOfPlace places p dart
AreTwins places (twin_of stem) dart = dart ≡ at_place stem
AreTwins places a_to_b dart = dart ≡ b_to_a
AreTwins places b_to_a dart = dart ≡ a_to_b

-- The numbers of the named darts are those of the structure's darts, each with one name; the root is place 0; and each dart is
-- followed by the next one, and has the twin, that the names say.
pub record AreNumbers (IsNamed : Dart → Type 0) (AreFollowing AreEdges : Dart → Dart → Type 0) (s : Structure) (number : Dart → ℕ) : Type 0 where
  pub within : (x : Dart) → IsNamed x → number x < s.darts
  pub different : (x y : Dart) → IsNamed x → IsNamed y → number x ≡ number y → x ≡ y
  pub all : (d : ℕ) → d < s.darts → (x : Dart) × IsNamed x × (number x ≡ d)
  pub root : s.root ≡ number (at_place 0)
  pub next : (x y : Dart) → IsNamed x → AreFollowing x y → s.next (number x) ≡ number y
  pub twin : (x y : Dart) → IsNamed x → AreEdges x y → s.twin (number x) ≡ number y

-- the structure is the closure, whatever the numbers of its darts
abbrev pub IsStemClosure : List ℕ → Structure → Type 0
IsStemClosure places s = (number : Dart → ℕ) × AreNumbers (IsDart places) (Follows places) (AreTwins places) s number
