-- Each letter changes the count of the waiting buds as it changes the rise.
use Rattle.std.proofs.Common.{◌≡◌, ℕ, suc, length, subst, arith}
use Rattle.pm_trees.specs.Word.{contour}
use Rattle.pm_match.proofs.Rise.{IsRise, waiting_none, waiting_bud, waiting_leaf, waiting_other, balanced_from}
use Rattle.pm_match.proofs.balance.is_plant_free.Goals as goal
use Rattle.pm_match.proofs.balance.is_plant_free.Goals.{in-98, in-108, in_default}

pub word-init : goal.word-init
word-init c = waiting_none c.args.letters.now

pub word-preserved : goal.word-preserved
word-preserved c = elim c.match-letter.branch [
  | in-98 w ↦ rw w.waiting-is (waiting_bud _ _ _ c.word-test.true w.in-98.is c.word.invariant)
  | in-108 w ↦ rw (w.waiting-is, w.saturating_sub-waiting.ensures) (waiting_leaf _ _ _ c.word-test.true w.in-108.is c.word.invariant)
  | in_default w ↦ rw w.waiting-is (waiting_other _ _ _ c.word-test.true (λ e. absurd (omega arith)) (λ e. absurd (omega arith)) c.word.invariant)
]

pub returns : goal.returns
returns c =
    let last : c.word.letter-index ≡ length c.args.letters.now = omega arith in
    balanced_from c.args.letters.now c.word.waiting c.requires (subst (λ (k : ℕ). IsRise (contour c.args.letters.now) (suc k) c.word.waiting) last c.word.invariant.rise)
