use Rattle.std.proofs.Common.{ℕ, List, subst}
use Rattle.pm_trees.specs.Word.{contour}
use Rattle.pm_match.specs.Pair.{IsPair}
use Rattle.pm_trees.proofs.FourLetters.{no_fault}
use Rattle.pm_cli.specs.TreeKinds.{too_many, degree, buds, matched}
use Rattle.pm_cli.proofs.close.close_blossoming.Goals as goal

pub returns-in-Err-Text : goal.returns-in-Err-Text
returns-in-Err-Text c order = let fault = rw c.in-Err-Text.field-0-is at c.in-Err-Text.ensures.answer in no_fault _ c.in-Err-Text.field-0-0 order fault.here

pub returns-in-Err-TooMany : goal.returns-in-Err-TooMany
returns-in-Err-TooMany c = let answer = rw c.in-Err-TooMany.field-0-is at c.in-Err-TooMany.ensures.answer in rw (rw c.in-Err-TooMany.letters-is at c.too_many.ensures) (answer.in_order, too_many c.in-Err-TooMany.letters answer)

pub returns-in-Err-Degree : goal.returns-in-Err-Degree
returns-in-Err-Degree c = let answer = rw c.in-Err-Degree.field-0-is at c.in-Err-Degree.ensures.answer in rw (rw c.in-Err-Degree.place-is at c.rule.ensures) (answer.in_order, degree c.in-Err-Degree.place answer)

pub returns-in-Err-Buds : goal.returns-in-Err-Buds
returns-in-Err-Buds c = let answer = rw c.in-Err-Buds.field-0-is at c.in-Err-Buds.ensures.answer in rw (rw c.in-Err-Buds.place-is at c.rule-in-Err-Buds.ensures) (answer.in_order, buds c.in-Err-Buds.place answer)

pub returns : goal.returns
returns c =
    let tree = c.in-Ok.ensures.answer.1 in
    let pair = rw c.in-Err-NotBalanced.field-0-is at c.in-Err-NotBalanced.ensures in
    rw (rw c.in-Err-NotBalanced.bud-is at c.rule-in-Err-NotBalanced.ensures)
    (tree.in_order, matched c.in-Err-NotBalanced.bud tree (subst (λ (w : List ℕ). IsPair (contour w) c.in-Err-NotBalanced.bud 0) c.in-Ok.ensures.answer.0 pair))
