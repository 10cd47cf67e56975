-- A rise of the count of faults, through the calls before and after it.
use Rattle.std.proofs.Common.{ℕ, ◌≤◌, inl, inr, arith}
use Rattle.pm_io.specs.Faults.{FaultsRose}

-- a rise stays one as the count goes on
pub FaultsRose-later : (old new later : ℕ) → FaultsRose old new → new ≤ later → later ≤ 18446744073709551615 → FaultsRose old later
FaultsRose-later old new later (inl rose) goes_on bounded = inl (omega arith)
FaultsRose-later old new later (inr last) goes_on bounded = inr (omega arith)

-- a rise stays one from any earlier count
pub FaultsRose-earlier : (earlier old new : ℕ) → earlier ≤ old → FaultsRose old new → FaultsRose earlier new
FaultsRose-earlier earlier old new goes_on (inl rose) = inl (omega arith)
FaultsRose-earlier earlier old new goes_on (inr last) = inr last
