-- A tree has one closure.
use Rattle.std.proofs.Common.{ℕ, List, arith}
use Rattle.std.specs.Prelude.{slice_index}
use Rattle.pm_trees.specs.Word.{contour}
use Rattle.pm_trees.specs.Blossoming.{IsBlossoming}
use Rattle.pm_trees.proofs.Balance.{two_more_leaves}
use Rattle.pm_trees.proofs.FourLetters.{bracketing_exists}
use Rattle.pm_match.proofs.Paired.{pairing_exists}
use Rattle.pm_close.specs.Laws.{HasOneClosure}
use Rattle.pm_close.proofs.ClosureLemmas.{bracketing_across}
use Rattle.pm_close.proofs.JoiningSteps.{one_partner}
use Rattle.pm_close.proofs.OneClosure.{HasAcross, closed_unique}

-- the places of a blossoming tree have one place across each, and one partner
pub has_across : (word : List ℕ) → IsBlossoming word → HasAcross (contour word)
has_across word tree =
    let bracketing = bracketing_exists word tree.in_order in
    let pairing = pairing_exists word (two_more_leaves word tree) in
    record {
      one = one_partner (contour word) pairing.0 pairing.1;
      some = λ p l. (slice_index bracketing.0 p, bracketing_across (contour word) bracketing.0 bracketing.1 p l);
    }

pub one_closure : HasOneClosure
one_closure word one other tree a b = closed_unique (contour word) one other (has_across word tree) (omega arith) a b
