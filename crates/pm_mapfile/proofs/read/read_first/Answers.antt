use Rattle.std.proofs.Common.{arith, ◌≡◌, ◌∷◌, [], length, ap, get_or, ◌∙◌}
use Rattle.std.proofs.lemmas.Bool.Decides.{nat_tests}
use Rattle.pm_mapfile.proofs.RoomLemmas.{first_is}
use Rattle.pm_mapfile.proofs.read.read_first.Goals.{then-edges-eq0, else-edges-eq0}
use Rattle.pm_mapfile.proofs.read.read_first.Goals as goal

pub returns-in_default : goal.returns-in_default
returns-in_default c = λ edges root t. (rw c.in_default.is at c.in_ok-numbers.ensures) (edges ∷ root ∷ []) t.line

pub returns-then-values-ne2 : goal.returns-then-values-ne2
returns-then-values-ne2 c = λ edges root t.
    let line = rw c.in-Some.is at c.in_ok-numbers.ensures in
    c.if-values-ne2.true (omega (arith, ap length (c.values-values.ensures ∙ first_is c.args.text.now c.in-Some.numbers edges root line t)))

pub returns : goal.returns
returns c = λ edges root t.
    let line = rw c.in-Some.is at c.in_ok-numbers.ensures in
    let two = c.values-values.ensures ∙ first_is c.args.text.now c.in-Some.numbers edges root line t in
    let first : get_or c.values-values.result.now 0 0 ≡ edges = ap (λ l. get_or l 0 0) two in
    let second : get_or c.values-values.result.now 1 0 ≡ root = ap (λ l. get_or l 1 0) two in
    elim c.if-edges-eq0.branch [
      | then-edges-eq0 w ↦ grind (arith, nat_tests)
      | else-edges-eq0 w ↦ grind (arith, nat_tests)
    ]
