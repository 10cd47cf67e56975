use Rattle.std.proofs.Common.{◌≡◌, ℕ, ◌-◌, [], length, take, refl, ◌∙◌, ap, arith, add-one, append-nil}
use Rattle.std.proofs.lemmas.List.{length_push}
use Rattle.pm_triclose.proofs.ClosingState.{bracket_dart, bracket_some, closing_close, closing_end, closing_ends, closing_few, closing_half, closing_last, closing_more, closing_open, closing_start, closing_stem, side_dart, side_few, side_last}
use Rattle.pm_triclose.proofs.Links.{two_longer}
use Rattle.pm_triclose.proofs.closing.closed_rotation.Goals as goal
use Rattle.pm_triclose.proofs.closing.closed_rotation.Goals.{then-letter-eq-STEM+in_ok-dart+in_ok-push-2, else-letter-eq-STEM+in-Some+then-not-stem+in_ok-push-4, then-letter-eq-OPEN+in_ok-dart-2+in_ok-push-3, else-letter-eq-OPEN, else-letter-eq-STEM+in_default}

pub letters-init : goal.letters-init
letters-init c =
    closing_start c.args.letters.now c.requires.in_order c.requires.ahead _ _ _ _ _ _ c.in_ok-sigma.ensures.items c.in_ok-last.ensures.longer c.in_ok-last.ensures.first c.new-brackets.ensures.items c.new-stems.ensures.items c.in_ok-push.ensures.items

pub new_edge-requires-then-letter-eq-STEM : goal.new_edge-requires-then-letter-eq-STEM
new_edge-requires-then-letter-eq-STEM c =
    omega (arith, closing_few _ _ _ _ _ _ c.letters.invariant, c.letters-test.true, c.requires.small)

pub index_mut-requires : goal.index_mut-requires
index_mut-requires c =
    omega (arith, closing_last _ _ _ _ _ _ c.letters.invariant, ap length c.in_ok-dart.ensures.longer, two_longer c.letters.sigma.items, c.new_edge-then-letter-eq-STEM.new.sigma.ok.0)

pub new_edge-requires-then-letter-eq-OPEN : goal.new_edge-requires-then-letter-eq-OPEN
new_edge-requires-then-letter-eq-OPEN c =
    omega (arith, closing_few _ _ _ _ _ _ c.letters.invariant, c.letters-test.true, c.requires.small)

pub index_mut-requires-then-letter-eq-OPEN : goal.index_mut-requires-then-letter-eq-OPEN
index_mut-requires-then-letter-eq-OPEN c =
    omega (arith, closing_last _ _ _ _ _ _ c.letters.invariant, ap length c.in_ok-dart-2.ensures.longer, two_longer c.letters.sigma.items, c.new_edge-then-letter-eq-OPEN.new.sigma.ok.0)

pub overflow_add-last : goal.overflow_add-last
overflow_add-last c =
    omega (arith, closing_few _ _ _ _ _ _ c.letters.invariant, c.in_ok-dart-2.ensures.first, c.letters-test.true, c.requires.small)

pub unwrap-dart-requires : goal.unwrap-dart-requires
unwrap-dart-requires c =
    c.pop.ensures.variant.1 (omega (arith, bracket_some c.args.letters.now c.requires.in_order c.requires.ahead c.letters.letter-index _ _ _ _ c.letters.invariant c.letters-test.true c.if-letter-eq-STEM.false c.if-letter-eq-OPEN.false))

pub overflow_add-dart : goal.overflow_add-dart
overflow_add-dart c =
    omega (
      arith,
      closing_few _ _ _ _ _ _ c.letters.invariant,
      bracket_dart c.args.letters.now c.requires.in_order c.requires.ahead c.letters.letter-index _ _ _ _ c.letters.invariant c.letters-test.true c.if-letter-eq-STEM.false c.if-letter-eq-OPEN.false _ _ _ c.pop.ensures.items c.unwrap-dart.ensures,
      c.letters-test.true,
      c.requires.small,
    )

pub index_mut-requires-else-letter-eq-OPEN : goal.index_mut-requires-else-letter-eq-OPEN
index_mut-requires-else-letter-eq-OPEN c = omega (arith, closing_last _ _ _ _ _ _ c.letters.invariant, c.letters.sigma.ok.0)

pub side-init : goal.side-init
side-init c = elim c.if-letter-eq-OPEN.branch [
  | then-letter-eq-OPEN+in_ok-dart-2+in_ok-push-3 w ↦ rw (w.sigma-is, w.brackets-is, w.last-is)
      (closing_open c.args.letters.now c.requires.in_order c.requires.ahead c.letters.letter-index _ _ _ _ c.letters.invariant _ _ _ _ w.if-letter-eq-OPEN.true w.in_ok-dart-2.ensures.first w.in_ok-dart-2.ensures.longer refl w.in_ok-push-3.ensures.items)
  | else-letter-eq-OPEN w ↦ rw (w.sigma-is, w.brackets-is, w.last-is)
      (closing_close c.args.letters.now c.requires.in_order c.requires.ahead c.letters.letter-index _ _ _ _ c.letters.invariant c.letters-test.true c.if-letter-eq-STEM.false w.if-letter-eq-OPEN.false _ _ _ _ w.pop.ensures.items w.unwrap-dart.ensures refl)
]

pub overflow_add-stem : goal.overflow_add-stem
overflow_add-stem c =
    omega (arith, side_few _ _ _ _ _ _ c.side.invariant, side_dart _ _ _ _ _ _ _ _ _ c.requires.ahead c.pop-in-side.ensures.items c.in-Some.is c.side.invariant, c.letters-test.true, c.requires.small)

pub index_mut-requires-in-Some : goal.index_mut-requires-in-Some
index_mut-requires-in-Some c = omega (arith, side_last _ _ _ _ _ _ c.side.invariant, c.side.sigma.ok.0)

pub overflow_add-last-in-Some : goal.overflow_add-last-in-Some
overflow_add-last-in-Some c =
    omega (arith, side_few _ _ _ _ _ _ c.side.invariant, side_dart _ _ _ _ _ _ _ _ _ c.requires.ahead c.pop-in-side.ensures.items c.in-Some.is c.side.invariant, c.letters-test.true, c.requires.small)

pub side-smaller : goal.side-smaller
side-smaller c = omega (arith, ap length c.in-Some.ensures.items, length_push c.pop-in-side.new.self.items c.in-Some.stem)

pub side-preserved : goal.side-preserved
side-preserved c = closing_more _ _ _ _ _ _ _ _ _ _ c.requires.ahead c.pop-in-side.ensures.items c.in-Some.is c.if-not-stem.false refl c.side.invariant

pub letters-preserved : goal.letters-preserved
letters-preserved c = elim c.if-letter-eq-STEM.branch [
  | then-letter-eq-STEM+in_ok-dart+in_ok-push-2 w ↦ rw (w.sigma-is, w.brackets-is, w.stems-is, w.last-is, add-one)
      (closing_stem c.args.letters.now c.requires.in_order c.requires.ahead c.letters.letter-index _ _ _ _ c.letters.invariant _ _ _ _ w.if-letter-eq-STEM.true w.in_ok-dart.ensures.first w.in_ok-dart.ensures.longer refl w.in_ok-push-2.ensures.items)
  | else-letter-eq-STEM+in-Some+then-not-stem+in_ok-push-4 w ↦ rw (w.sigma-is, w.brackets-is, w.stems-is, w.last-is, add-one)
      (closing_half _ _ _ _ _ _ _ _ _ _ c.requires.ahead w.pop-in-side.ensures.items w.in-Some.is w.if-not-stem.true w.in_ok-push-4.ensures.items w.side.invariant)
  | else-letter-eq-STEM+in_default w ↦
      let none : w.pop-in-side.new.self.items ≡ [] = w.in_default.ensures.rest ∙ ap (λ (n : ℕ). take (n - 1) w.side.stems.items) w.in_default.ensures.cases.0 in
      let same : w.side.stems.items ≡ w.pop-in-side.new.self.items = w.in_default.ensures.items ∙ append-nil w.pop-in-side.new.self.items in
      rw (w.sigma-is, w.brackets-is, w.stems-is, w.last-is, add-one)
      (closing_ends _ _ _ _ _ _ _ c.requires.ahead same none w.side.invariant)
]

pub index_mut-requires-2 : goal.index_mut-requires-2
index_mut-requires-2 c = omega (arith, closing_last _ _ _ _ _ _ c.letters.invariant, c.letters.sigma.ok.0)

pub returns : goal.returns
returns c = closing_end c.args.letters.now c.requires.in_order c.requires.ahead c.letters.letter-index _ _ _ _ c.letters.invariant _ (omega arith) refl
