use Rattle.std.proofs.Common.{arith, ℕ, ◌+◌, ◌∙◌, ap, refl, length, get_or}
use Rattle.std.proofs.lemmas.List.{length-replicate, get_or-replicate}
use Rattle.pm_brackets.proofs.Pairing.{opener_is_there}
use Rattle.pm_brackets.proofs.Reading.{zero_is_other}
use Rattle.pm_brackets.proofs.Filling.{filling_start, filling_other, filling_open, filling_opener, filling_close, filling_end}
use Rattle.pm_brackets.proofs.bracketing.other_brackets.Goals as goal
use Rattle.pm_brackets.proofs.bracketing.other_brackets.Goals.{then-letter-eq-CLOSE, else-letter-eq-CLOSE, then-letter-eq-OPEN+in_ok-push, else-letter-eq-OPEN}

pub letters-init : goal.letters-init
letters-init c plant bare =
    let zeros = c.in_ok-other.ensures.items_if_clones_equal (λ y e. e) in
    let none : ℕ = 0 in
    filling_start plant bare _ _ _ (omega (arith, ap length zeros, length-replicate (length c.args.word.now + 1) none)) (ap (λ xs. get_or xs 0 0) zeros ∙ get_or-replicate (length c.args.word.now + 1) 0 none 0 (omega arith)) c.new-open.ensures.items

pub unwrap-opener-requires : goal.unwrap-opener-requires
unwrap-opener-requires c = c.pop.ensures.variant.1 (let h = opener_is_there 0 zero_is_other _ _ _ _ c.requires.matched c.if-letter-eq-CLOSE.true (c.letters.invariant 0 zero_is_other).prefix in omega arith)

pub index_mut-requires : goal.index_mut-requires
index_mut-requires c =
    let before = filling_opener 0 _ _ _ _ c.pop.result _ _ c.pop.ensures.items c.unwrap-opener.ensures (c.letters.invariant 0 zero_is_other) in
    let long = (c.letters.invariant 0 zero_is_other).as_long in
    omega arith

pub letters-preserved : goal.letters-preserved
letters-preserved c plant bare =
    elim c.if-letter-eq-CLOSE.branch [
      | then-letter-eq-CLOSE w ↦ rw (w.other-is, w.open-is)
          (filling_close plant _ c.letters.other.items _ _ _ _ w.pop.result w.unwrap-opener.result c.letters.i _ (c.letters.i + 1) c.letters-test.true w.if-letter-eq-CLOSE.true (let e = w.pop.ensures.items in cc) w.unwrap-opener.ensures refl refl (omega arith) (omega arith) (c.letters.invariant plant bare))
      | else-letter-eq-CLOSE w ↦
          elim w.if-letter-eq-OPEN.branch [
            | then-letter-eq-OPEN+in_ok-push w' ↦ rw (w.other-is, w.open-is, w'.open-is)
                (filling_open plant _ c.letters.other.items _ c.letters.open.items _ c.letters.i (c.letters.i + 1) (c.letters.i + 1) c.letters-test.true w'.if-letter-eq-OPEN.true refl (let e = w'.in_ok-push.ensures.items in cc) (omega arith) (omega arith) (c.letters.invariant plant bare))
            | else-letter-eq-OPEN w' ↦ rw (w.other-is, w.open-is, w'.open-is)
                (filling_other plant _ c.letters.other.items _ c.letters.open.items _ c.letters.i (c.letters.i + 1) (c.letters.i + 1) c.letters-test.true (record { not_open = w'.if-letter-eq-OPEN.false; not_close = w.if-letter-eq-CLOSE.false }) refl refl (omega arith) (omega arith) (c.letters.invariant plant bare))
          ]
    ]

pub returns : goal.returns
returns c plant bare = filling_end plant bare _ _ _ c.letters.i (omega arith) c.requires.matched (c.letters.invariant plant bare)
