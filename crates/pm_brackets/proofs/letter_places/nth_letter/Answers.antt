use Rattle.std.proofs.Common.{arith}
use Rattle.pm_brackets.proofs.LetterCounts.{counting_start, counting_letter, counting_other, counting_found, counting_end}
use Rattle.pm_brackets.proofs.letter_places.nth_letter.Goals as goal
use Rattle.pm_brackets.proofs.letter_places.nth_letter.Goals.{then-x-letter+else-left-eq1, else-x-letter}

pub letters-init : goal.letters-init
letters-init c = counting_start _ _ _ c.if-number-eq0.false

pub returns-then-left-eq1 : goal.returns-then-left-eq1
returns-then-left-eq1 c = counting_found _ _ _ _ c.letters.i _ c.letters.invariant c.if-x-letter.true c.if-left-eq1.true (omega arith)

pub letters-preserved : goal.letters-preserved
letters-preserved c =
    elim c.if-x-letter.branch [
      | then-x-letter+else-left-eq1 w ↦
          counting_letter _ _ _ _ _ c.letters.i _ c.letters.invariant c.letters-test.true w.if-x-letter.true w.if-left-eq1.false w.left-is (omega arith)
      | else-x-letter w ↦ counting_other _ _ _ _ _ c.letters.i _ c.letters.invariant w.if-x-letter.false w.left-is (omega arith)
    ]

pub unreachable-requires : goal.unreachable-requires
unreachable-requires c = counting_end _ _ _ _ c.letters.i c.letters.invariant (omega arith) c.requires.number
