-- What the walk that opens a map asks of a dart, and what it writes.
use Rattle.std.specs.Prelude.{ℕ, nat_lt, Bool, List, slice_index}
use Rattle.pm_trees.specs.declared.letters.TheConstants.{LEAF, BUD}
use Rattle.pm_brackets.specs.declared.letters.TheConstants.{OPEN, CLOSE}
use Rattle.pm_map.specs.Rotation.{twin}
use Rattle.pm_walk.specs.declared.passing.DartKind.{DartKind}
use Rattle.pm_walk.specs.declared.passing.DartKind.TheVariants.{CutFirst, CutAgain, KeptFirst, KeptAgain}

-- the face beyond is further
abbrev pub is_further : List ℕ → ℕ → Bool
is_further distances dart = nat_lt (slice_index distances dart) (slice_index distances (twin dart))

-- an edge that is cut has a bud and then a leaf, and another one its two brackets
abbrev pub letter_for : DartKind → ℕ
letter_for CutFirst = BUD
letter_for CutAgain = LEAF
letter_for KeptFirst = OPEN
letter_for KeptAgain = CLOSE
