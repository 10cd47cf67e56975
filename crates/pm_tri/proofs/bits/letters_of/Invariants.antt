use Rattle.std.proofs.Common.{◌∷◌, reverse}
use Rattle.pm_tri.proofs.BitTrees.{IsBuilding}
use Rattle.pm_tri.proofs.bits.letters_of.Given as goal

abbrev pub invariant-bits : goal.invariant-bits
invariant-bits l = IsBuilding l.fn.bits l.one-index l.letters.items (l.stems ∷ reverse l.parents.items)
