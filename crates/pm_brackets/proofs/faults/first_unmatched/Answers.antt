use Rattle.std.proofs.Common.{arith, ◌≡◌, ◌+◌, is_some, true, false}
use Rattle.pm_brackets.proofs.Reading.{reading_start, reading_push, reading_other, reading_pop, reading_stray, reading_end, popped_none}
use Rattle.pm_brackets.proofs.faults.first_unmatched.Goals as goal
use Rattle.pm_brackets.proofs.faults.first_unmatched.Goals.{then-letter-eq-OPEN+in_ok-push, else-letter-eq-OPEN+then-letter-eq-CLOSE+else-is_none, else-letter-eq-OPEN+else-letter-eq-CLOSE}

pub letters-init : goal.letters-init
letters-init c = reading_start _ _ c.new-open.ensures.items

pub returns-then-is_none : goal.returns-then-is_none
returns-then-is_none c =
    let n : is_some c.pop.result ≡ false = rw c.if-is_none.true at c.is_none.ensures in
    reading_stray _ _ c.letters.i _ c.letters.invariant c.if-letter-eq-CLOSE.true
    (popped_none _ c.pop.result _ n c.pop.ensures.variant (omega arith)) (omega arith)

pub letters-preserved : goal.letters-preserved
letters-preserved c =
    elim c.if-letter-eq-OPEN.branch [
      | then-letter-eq-OPEN+in_ok-push w ↦ reading_push _ _ _ c.letters.i _ (c.letters.i + 1) c.letters.invariant w.if-letter-eq-OPEN.true (cc w.in_ok-push.ensures.items) (omega arith) (omega arith)
      | else-letter-eq-OPEN+then-letter-eq-CLOSE+else-is_none w ↦
          let n : is_some w.pop.result ≡ true = rw w.if-is_none.false at w.is_none.ensures in
          reading_pop _ _ _ c.letters.i _ w.pop.result c.letters.invariant w.if-letter-eq-CLOSE.true (cc) n (omega arith)
      | else-letter-eq-OPEN+else-letter-eq-CLOSE w ↦
          reading_other _ _ _ c.letters.i _ c.letters.invariant (record { not_open = w.if-letter-eq-OPEN.false; not_close = w.if-letter-eq-CLOSE.false }) (cc) (omega arith)
    ]

pub returns : goal.returns
returns c = reading_end _ _ _ c.letters.i _ c.pop-2.result c.letters.invariant (omega arith) c.pop-2.ensures.items c.pop-2.ensures.variant (omega arith)
