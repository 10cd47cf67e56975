-- Each letter changes the level above the low, and a bracket whose other one stands beyond the start is turned.
use Rattle.std.proofs.Common.{◌≡◌, ℕ, suc, ◌+◌, ◌-◌, ◌<◌, ◌∷◌, List, length, refl, ap, sym, subst, arith}
use Rattle.std.proofs.lemmas.Result.{IfOk-weaker}
use Rattle.pm_brackets.specs.Ring.{IsTurned}
use Rattle.pm_brackets.proofs.LowTurns.{IsAfter, IsBefore, after_start, after_other, after_opens, after_closes, after_sinks, before_start, before_other, before_opens, before_closes, before_sinks, turned_whole}
use Rattle.pm_brackets.proofs.Turns.{turned_none}
use Rattle.pm_brackets.proofs.turning.turned.Goals as goal
use Rattle.pm_brackets.proofs.turning.turned.Goals.{in-40, in-41, in-41-2, in_default}

after_at : (plant : ℕ) (word : List ℕ) (start : ℕ) (letters : List ℕ) (i j a b : ℕ) → i ≡ j → a ≡ b → IsAfter plant word start letters i a → IsAfter plant word start letters j b
after_at plant word start letters i j a b e f h =
    subst (λ (k : ℕ). IsAfter plant word start letters k b) e (subst (IsAfter plant word start letters i) f h)

before_at : (plant : ℕ) (word : List ℕ) (start : ℕ) (letters : List ℕ) (i j a b : ℕ) → i ≡ j → a ≡ b → IsBefore plant word start letters i a → IsBefore plant word start letters j b
before_at plant word start letters i j a b e f h =
    subst (λ (k : ℕ). IsBefore plant word start letters k b) e (subst (IsBefore plant word start letters i) f h)

-- the state at the letter before
at_letter : (plant : ℕ) (word : List ℕ) (start : ℕ) (letters : List ℕ) (i above : ℕ) → 0 < i → IsBefore plant word start letters i above → IsBefore plant word start letters (suc (i - 1)) above
at_letter plant word start letters i above some h = before_at plant word start letters i (suc (i - 1)) above above (omega arith) refl h

from_first : (places : List ℕ) (start : ℕ) (turned : List ℕ) → start ≡ 0 → turned ≡ places → IsTurned places start turned
from_first places start turned e f = subst (λ (k : ℕ). IsTurned places k turned) (sym e) (subst (IsTurned places 0) (sym f) (turned_none places))

pub returns-then-start-eq0 : goal.returns-then-start-eq0
returns-then-start-eq0 c =
    IfOk-weaker c.from_slice.result _ _ (λ letters same. from_first (c.args.plant ∷ c.args.word.now) c.args.start (c.args.plant ∷ letters.items) c.if-start-eq0.true (ap (λ (xs : List ℕ). c.args.plant ∷ xs) same)) c.from_slice.ensures.items

pub behind-init : goal.behind-init
behind-init c =
    (after_start c.args.plant c.requires.plant c.args.word.now c.args.start c.requires.within c.requires.start c.in_ok-letters.letters.items (let some = c.if-start-eq0.false in omega (arith, some)) c.in_ok-letters.ensures, omega arith)

pub behind-preserved : goal.behind-preserved
behind-preserved c =
    let i = c.behind.place in
    let d = c.behind.place - c.args.start in
    let from = c.behind.auto.place in
    let few = c.behind.invariant.1 in
    elim c.match-word-place.branch [
      | in-40 w ↦ rw (w.letters-is, w.above-is) (
        after_at _ _ _ _ (suc i) (i + 1) (suc c.behind.above) (c.behind.above + 1) (omega arith) (omega arith)
            (after_opens _ c.requires.plant _ _ c.requires.within c.requires.start c.behind.letters.items i c.behind.above d c.behind.invariant.0 (omega arith) c.behind-test.true w.in-40.is),
        omega arith,
      )
      | in-41 w ↦ rw (w.letters-is, w.above-is) (
        after_at _ _ _ _ (suc i) (i + 1) (c.behind.above - 1) (c.behind.above - 1) (omega arith) refl
            (after_closes _ c.requires.plant _ _ c.requires.within c.requires.start c.behind.letters.items i c.behind.above d c.behind.invariant.0 (omega arith) c.behind-test.true w.in-41.is w.if-above-gt0.true),
        omega arith,
      )
      | in-41-2 w ↦ rw (w.letters-is, w.above-is) (
        after_at _ _ _ _ (suc i) (i + 1) c.behind.above c.behind.above (omega arith) refl
            (after_sinks _ c.requires.plant _ _ c.requires.within c.requires.start c.behind.letters.items _ i c.behind.above d c.behind.invariant.0 (omega arith) c.behind-test.true w.in-41.is (omega (arith, w.if-above-gt0.false)) refl),
        omega arith,
      )
      | in_default w ↦ rw (w.letters-is, w.above-is) (
        after_at _ _ _ _ (suc i) (i + 1) c.behind.above c.behind.above (omega arith) refl
            (after_other _ c.requires.plant _ _ c.requires.within c.requires.start c.behind.letters.items i c.behind.above d c.behind.invariant.0 (omega arith) c.behind-test.true
            (record { not_open = λ e. absurd (omega arith); not_close = λ e. absurd (omega arith) })),
        omega arith,
      )
    ]

pub back-init : goal.back-init
back-init c =
    (before_start _ c.requires.plant _ _ c.requires.within c.requires.start c.behind.letters.items c.behind.place c.behind.above (c.args.start - 1) c.behind.invariant.0 (let within = c.requires.within in omega arith) (let some = c.if-start-eq0.false in omega (arith, some)), let within = c.requires.within in omega arith)

pub back-preserved-in-41-word : goal.back-preserved-in-41-word
back-preserved-in-41-word c =
    let within = c.requires.within in
    let few = c.back.invariant.1 in (
      before_at _ _ _ _ (c.back.place - 1) (c.back.place - 1) (suc c.back.above) (c.back.above + 1) refl (omega arith)
          (before_closes _ c.requires.plant _ _ within c.requires.start c.back.letters.items (c.back.place - 1) c.back.above (length c.args.word.now - c.args.start + 1 + (c.back.place - 1))
          (at_letter _ _ _ _ c.back.place c.back.above c.back-test.true c.back.invariant.0) (omega arith) (omega arith) c.in-41-word.is),
      omega arith,
    )

pub back-preserved-then-above-gt0-2 : goal.back-preserved-then-above-gt0-2
back-preserved-then-above-gt0-2 c =
    let within = c.requires.within in
    let few = c.back.invariant.1 in (
      before_opens _ c.requires.plant _ _ within c.requires.start c.back.letters.items (c.back.place - 1) c.back.above (length c.args.word.now - c.args.start + 1 + (c.back.place - 1))
          (at_letter _ _ _ _ c.back.place c.back.above c.back-test.true c.back.invariant.0) (omega arith) (omega arith) c.in-40-word.is c.if-above-gt0-2.true,
      omega arith,
    )

pub back-preserved-in-40-2 : goal.back-preserved-in-40-2
back-preserved-in-40-2 c =
    let within = c.requires.within in
    let few = c.back.invariant.1 in (
      before_sinks _ c.requires.plant _ _ within c.requires.start c.back.letters.items _ (c.back.place - 1) c.back.above (length c.args.word.now - c.args.start + 1 + (c.back.place - 1))
          (at_letter _ _ _ _ c.back.place c.back.above c.back-test.true c.back.invariant.0) (omega arith) (omega arith) c.in-40-word.is (omega (arith, c.if-above-gt0-2.false)) refl,
      omega arith,
    )

pub back-preserved : goal.back-preserved
back-preserved c =
    let within = c.requires.within in
    let few = c.back.invariant.1 in (
      before_other _ c.requires.plant _ _ within c.requires.start c.back.letters.items (c.back.place - 1) c.back.above (length c.args.word.now - c.args.start + 1 + (c.back.place - 1))
          (at_letter _ _ _ _ c.back.place c.back.above c.back-test.true c.back.invariant.0) (omega arith) (omega arith) (record { not_open = λ e. absurd (omega arith); not_close = λ e. absurd (omega arith) }),
      omega arith,
    )

pub returns : goal.returns
returns c =
    turned_whole _ c.requires.plant _ _ c.requires.within c.requires.start c.back.letters.items c.back.above c.requires.matched
    (before_at _ _ _ _ c.back.place 0 c.back.above c.back.above (omega arith) refl c.back.invariant.0)
