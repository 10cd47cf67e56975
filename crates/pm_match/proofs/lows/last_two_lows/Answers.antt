-- Each letter changes the buds that wait, and a leaf for which none waits is the next record low.
use Rattle.std.proofs.Common.{◌≡◌, length, arith}
use Rattle.pm_match.proofs.RecordLows.{sunk_none, sunk_bud, sunk_leaf, sunk_low, sunk_other, sunk_free}
use Rattle.pm_match.proofs.lows.last_two_lows.Goals as goal
use Rattle.pm_match.proofs.lows.last_two_lows.Goals.{in-98, in-108, in-108-2, in_default}

pub letters-init : goal.letters-init
letters-init c = sunk_none c.args.letters.now

pub letters-preserved : goal.letters-preserved
letters-preserved c = elim c.match-letters-index.branch [
  | in-98 w ↦ rw (w.waiting-is, w.first-is, w.second-is) (sunk_bud _ _ _ _ _ c.letters-test.true w.in-98.is c.letters.invariant)
  | in-108 w ↦ rw (w.waiting-is, w.first-is, w.second-is) (sunk_leaf _ _ _ _ _ c.letters-test.true w.in-108.is w.if-waiting-gt0.true c.letters.invariant)
  | in-108-2 w ↦ rw (w.waiting-is, w.first-is, w.second-is) (sunk_low _ _ _ _ _ c.letters-test.true w.in-108.is (omega (arith, w.if-waiting-gt0.false)) c.letters.invariant)
  | in_default w ↦ rw (w.waiting-is, w.first-is, w.second-is) (sunk_other _ _ _ _ _ c.letters-test.true (λ e. absurd (omega arith)) (λ e. absurd (omega arith)) c.letters.invariant)
]

pub returns : goal.returns
returns c =
    let last : c.letters.index ≡ length c.args.letters.now = omega arith in
    sunk_free _ _ _ _ _ c.requires.surplus last c.letters.invariant
