use Rattle.std.proofs.Common.{ℕ, List, subst}
use Rattle.pm_tri.specs.Balance.{IsFollowing}
use Rattle.pm_tri.specs.Runs.{IsClosing}
use Rattle.pm_tri.specs.StemTree.{contour}
use Rattle.pm_tri.proofs.StemLetters.{no_fault}
use Rattle.pm_triclose.specs.Closing.{ClosesTo}
use Rattle.pm_cli.specs.TreeKinds.{too_long, stems, closes, follows}
use Rattle.pm_cli.proofs.close.close_stems.Goals as goal

pub returns-in-Err-Text : goal.returns-in-Err-Text
returns-in-Err-Text c order = let fault = rw c.in-Err-Text.field-0-is at c.in-Err-Text.ensures.answer in no_fault _ c.in-Err-Text.field-0-0 order fault.here

pub returns-in-Err-TooMany : goal.returns-in-Err-TooMany
returns-in-Err-TooMany c = let answer = rw c.in-Err-TooMany.field-0-is at c.in-Err-TooMany.ensures.answer in rw (rw c.in-Err-TooMany.letters-is at c.too_many.ensures) (answer.in_order, too_long c.in-Err-TooMany.letters answer)

pub returns-in-Err-Stems : goal.returns-in-Err-Stems
returns-in-Err-Stems c = let answer = rw c.in-Err-Stems.field-0-is at c.in-Err-Stems.ensures.answer in rw (rw c.in-Err-Stems.place-is at c.rule.ensures) (answer.in_order, stems c.in-Err-Stems.place answer)

pub returns-in-Ok-tri_close : goal.returns-in-Ok-tri_close
returns-in-Ok-tri_close c =
    let tree = c.in-Ok.ensures.answer.1 in
    let closing = subst (λ (w : List ℕ). ClosesTo w c.in-Ok-tri_close.closed) c.in-Ok.ensures.answer.0 c.in-Ok-tri_close.ensures in
    (tree.in_order, record { tree = tree; balanced = closing.balanced; is_closed = closing.closure })

pub returns-in-Err-Closes : goal.returns-in-Err-Closes
returns-in-Err-Closes c =
    let tree = c.in-Ok.ensures.answer.1 in
    let is = rw c.in-Err-Closes.field-0-is at c.in-Err-Closes.ensures in
    rw (rw c.in-Err-Closes.side-is at c.rule-in-Err-Closes.ensures)
    (tree.in_order, closes c.in-Err-Closes.side tree (subst (λ (w : List ℕ). IsClosing (contour w) 0 c.in-Err-Closes.side) c.in-Ok.ensures.answer.0 is))

pub returns : goal.returns
returns c =
    let tree = c.in-Ok.ensures.answer.1 in
    let is = rw c.in-Err-Follows.field-0-is at c.in-Err-Follows.ensures in
    rw (rw c.in-Err-Follows.stem-is at c.rule-in-Err-Follows.ensures)
    (tree.in_order, follows c.in-Err-Follows.stem tree (subst (λ (w : List ℕ). IsFollowing (contour w) c.in-Err-Follows.stem) c.in-Ok.ensures.answer.0 is))
