use Rattle.std.proofs.Common.{◌≡◌, ◌==◌, map, take}
use Rattle.pm_brackets.specs.declared.letters.TheConstants.{OPEN}
use Rattle.pm_tri.proofs.bits.bits_of_tri_tree.Given as goal

abbrev pub invariant-loop-letter : goal.invariant-loop-letter
invariant-loop-letter l = l.bits.items ≡ map (λ x. x == OPEN) (take l.letter-index l.word)
