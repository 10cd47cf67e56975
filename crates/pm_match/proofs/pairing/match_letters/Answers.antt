-- Each turn goes on place by place, and what stands after both is the pairing.
use Rattle.std.proofs.Common.{◌<◌, length, arith}
use Rattle.pm_trees.specs.Word.{contour}
use Rattle.pm_match.proofs.Counts.{surplus_from}
use Rattle.pm_match.proofs.Reading.{top_within}
use Rattle.pm_match.proofs.Steps.{first_start, first_opens, first_leaf, first_bracket, second_start, second_opens, second_closes, second_meets, second_passes, second_bracket, done, pairing_read}
use Rattle.pm_match.proofs.pairing.match_letters.Goals as goal
use Rattle.pm_match.proofs.pairing.match_letters.Goals.{in-98+in_ok-open-in-98, in-108, in_default, in-98-letter_at, in-108-letter_at, in-108-2+then-not-meet+in_ok-push-in-108-2, in-108-2+else-not-meet, in_default-letter_at}

pub first-init : goal.first-init
first-init c = first_start _ _ _ c.in_ok-pairs.ensures.items c.new-waiting.ensures.items

pub meet-requires : goal.meet-requires
meet-requires c = λ some. omega (arith, top_within _ _ _ _ _ some c.first.invariant.reading, c.first.pairs.ok.0)

pub first-preserved : goal.first-preserved
first-preserved c =
    let inside : c.first.place < length (contour c.args.letters.now) = omega arith in
    elim c.match-letter_at.branch [
      | in-98+in_ok-open-in-98 w ↦ rw (w.pairs-is, w.waiting-is) (first_opens _ _ _ _ _ _ _ inside c.letter_at.ensures w.in-98.is w.in_ok-open-in-98.ensures c.first.invariant)
      | in-108 w ↦ rw (w.pairs-is, w.waiting-is) (first_leaf _ _ _ _ _ _ _ _ inside c.letter_at.ensures w.in-108.is w.meet.ensures.met w.meet.ensures.passed c.first.invariant)
      | in_default w ↦ rw (w.pairs-is, w.waiting-is) (first_bracket _ _ _ _ _ inside c.letter_at.ensures (λ e. absurd (omega arith)) (λ e. absurd (omega arith)) c.first.invariant)
    ]

pub second-init : goal.second-init
second-init c = second_start _ _ _ _ _ (omega arith) c.new-free.ensures.items c.first.invariant

pub meet-requires-in-108-2 : goal.meet-requires-in-108-2
meet-requires-in-108-2 c = λ some. omega (arith, top_within _ _ _ _ _ some c.second.invariant.reading, c.second.pairs.ok.0)

pub second-preserved : goal.second-preserved
second-preserved c =
    let inside : c.second.place < length (contour c.args.letters.now) = omega arith in
    let surplus = surplus_from (contour c.args.letters.now) c.requires.surplus in
    elim c.match-letter_at-2.branch [
      | in-98-letter_at w ↦ rw (w.pairs-is, w.waiting-is, w.free-is, w.inner-is) (second_opens _ _ _ _ _ _ _ _ c.letter_at-in-second.ensures w.in-98-letter_at.is c.second.invariant)
      | in-108-letter_at w ↦ rw (w.pairs-is, w.waiting-is, w.free-is, w.inner-is) (second_closes _ _ _ _ _ _ _ _ surplus inside c.letter_at-in-second.ensures w.in-108-letter_at.is w.if-inner-gt0.true c.second.invariant)
      | in-108-2+then-not-meet+in_ok-push-in-108-2 w ↦ rw (w.pairs-is, w.waiting-is, w.free-is, w.inner-is, w.in_ok-push-in-108-2.ensures.items) (second_passes _ _ _ _ _ _ _ _ _ _ c.letter_at-in-second.ensures w.in-108-letter_at.is w.if-inner-gt0.false w.if-not-meet.ensures.passed c.second.invariant)
      | in-108-2+else-not-meet w ↦ rw (w.pairs-is, w.waiting-is, w.free-is, w.inner-is) (second_meets _ _ _ _ _ _ _ _ _ _ surplus inside c.letter_at-in-second.ensures w.in-108-letter_at.is w.if-inner-gt0.false w.if-not-meet.ensures.met c.second.invariant)
      | in_default-letter_at w ↦ rw (w.pairs-is, w.waiting-is, w.free-is, w.inner-is) (second_bracket _ _ _ _ _ _ _ _ inside c.letter_at-in-second.ensures (λ e. absurd (omega arith)) (λ e. absurd (omega arith)) c.second.invariant)
    ]

pub index-requires : goal.index-requires
index-requires c =
    let end = done _ _ _ _ _ _ _ _ _ c.requires.surplus (omega arith) (omega arith) c.first.invariant c.second.invariant in
    omega (arith, end.two, c.second.free.ok.0)

pub index-requires-2 : goal.index-requires-2
index-requires-2 c =
    let end = done _ _ _ _ _ _ _ _ _ c.requires.surplus (omega arith) (omega arith) c.first.invariant c.second.invariant in
    omega (arith, end.two, c.second.free.ok.0)

pub returns : goal.returns
returns c =
    let end = done _ _ _ _ _ _ _ _ _ c.requires.surplus (omega arith) (omega arith) c.first.invariant c.second.invariant in
    pairing_read _ _ _ _ _ end c.index.ensures c.index-2.ensures
