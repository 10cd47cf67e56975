-- The letters of darts that are numbered along the walk that opens a structure. The word of the opening is read along it.
use Rattle.std.specs.Prelude.{◌≡◌, ℕ, ◌<◌, nat_lt, ◌==◌, List, length, slice_index, if◌then◌else◌}
use Rattle.pm_trees.specs.declared.letters.TheConstants.{LEAF, BUD}
use Rattle.pm_brackets.specs.declared.letters.TheConstants.{OPEN, CLOSE}
use Rattle.pm_map.specs.Structure.{Structure}
use Rattle.pm_distances.proofs.Walked.{is_cut}

-- the letter of a dart: of an edge that is cut a bud comes first and then a leaf, and of another one its two brackets; the
-- root is the plant
abbrev pub letter_of : Structure → (ℕ → ℕ) → ℕ → ℕ
letter_of s level d =
    if d == 0 then LEAF else
    (if is_cut s level d
    then (if nat_lt d (s.twin d) then BUD else LEAF)
    else (if nat_lt d (s.twin d) then OPEN else CLOSE))

-- the places have these letters
pub record IsSpelled (s : Structure) (level : ℕ → ℕ) (places : List ℕ) : Type 0 where
  pub as_long : length places ≡ s.darts
  pub each : (d : ℕ) → d < s.darts → slice_index places d ≡ letter_of s level d
