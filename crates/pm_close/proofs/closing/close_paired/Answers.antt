use Rattle.std.proofs.Common.{ℕ, List, sym, ap, subst}
use Rattle.pm_perm.specs.Permutation.{IsPermutationList}
use Rattle.pm_trees.specs.Word.{contour}
use Rattle.pm_close.specs.steps.Levelling.{IsLow, AreLevelsAt}
use Rattle.pm_close.proofs.ClosedMap.{numbered_permutes, numbered_closes}
use Rattle.pm_close.proofs.LowWords.{low_word}
use Rattle.pm_close.proofs.closing.close_paired.Goals as goal

pub levels_of-requires-clause-low : goal.levels_of-requires-clause-low
levels_of-requires-clause-low c =
    subst IsLow (sym c.letters-letters.ensures.letters) (low_word c.args.tree.now c.letters-letters.ensures.balanced c.requires.balanced)

pub levels_of-requires-clause-permutation : goal.levels_of-requires-clause-permutation
levels_of-requires-clause-permutation c = subst IsPermutationList (sym c.deref.ensures.value) (numbered_permutes _ _ _ c.in_ok-numbered.ensures)

pub returns : goal.returns
returns c =
    numbered_closes _ _ _ c.in_ok-numbered.ensures c.letters-letters.result.now c.in_ok-levels.levels c.requires.balanced (ap contour (sym c.letters-letters.ensures.letters))
    (subst (λ (xs : List ℕ). AreLevelsAt c.letters-letters.result.now xs c.in_ok-levels.levels) c.deref.ensures.value c.in_ok-levels.ensures)
