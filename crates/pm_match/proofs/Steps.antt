-- The turns step by step, in the words of the functions that take the steps.
use Rattle.std.proofs.Common.{◌≡◌, ◌≢◌, ℕ, suc, ◌+◌, ◌-◌, ◌<◌, ◌≤◌, Bool, true, false, List, [], ◌∷◌, ◌++◌, length, get_or, sym, ◌∙◌, subst, arith, add-one}
use Rattle.std.specs.Prelude.{slice_index}
use Rattle.std.specs.Bool.{OnTrue, OnFalse}
use Rattle.std.proofs.lemmas.List.{get_or_read}
use Rattle.pm_trees.specs.declared.letters.TheConstants.{LEAF, BUD}
use Rattle.pm_brackets.specs.Word.{count}
use Rattle.pm_trees.specs.Word.{contour}
use Rattle.pm_match.specs.Pairing.{IsPairing}
use Rattle.pm_match.specs.steps.Waiting.{Opens, Meets, Passes}
use Rattle.pm_match.proofs.Counts.{HasSurplus, surplus_from}
use Rattle.pm_match.proofs.Rise.{IsRise}
use Rattle.pm_match.proofs.Turns.{IsFirstTurn, first_none, first_bud, first_meet, first_loose, first_other}
use Rattle.pm_match.proofs.Completing.{IsSecondTurn, second_none, second_bud, second_inner_leaf, second_meet, second_loose, second_other, two_free, pairing_from, found}

pub first_start : (places : List ℕ) (pairs : List (ℕ × ℕ)) (stack : List ℕ) → pairs ≡ [] → stack ≡ [] → IsFirstTurn places 0 pairs stack
first_start places pairs stack e f =
    subst (λ (p : List (ℕ × ℕ)). IsFirstTurn places 0 p stack) (sym e) (subst (λ (s : List ℕ). IsFirstTurn places 0 [] s) (sym f) (first_none places))

first_same : (places : List ℕ) (i : ℕ) (pairs after : List (ℕ × ℕ)) (stack rest : List ℕ) → after ≡ pairs → rest ≡ stack → IsFirstTurn places (suc i) pairs stack → IsFirstTurn places (i + 1) after rest
first_same places i pairs after stack rest e f h =
    rw add-one (subst (λ (p : List (ℕ × ℕ)). IsFirstTurn places (suc i) p rest) (sym e) (subst (λ (s : List ℕ). IsFirstTurn places (suc i) pairs s) (sym f) h))

pub first_opens : (places : List ℕ) (i x : ℕ) (pairs after : List (ℕ × ℕ)) (stack more : List ℕ) → i < length places → x ≡ slice_index places i → x ≡ BUD → Opens pairs after stack more i → IsFirstTurn places i pairs stack → IsFirstTurn places (i + 1) after more
first_opens places i x pairs after stack more i_in at e o h = first_same places i _ after _ more o.opened o.stacked (first_bud places i pairs stack i_in (sym at ∙ e) h)

pub first_leaf : (places : List ℕ) (i x : ℕ) (r : Bool) (pairs after : List (ℕ × ℕ)) (stack rest : List ℕ) → i < length places → x ≡ slice_index places i → x ≡ LEAF → OnTrue r (Meets pairs after stack rest i) → OnFalse r (Passes pairs after stack rest) → IsFirstTurn places i pairs stack → IsFirstTurn places (i + 1) after rest
first_leaf places i x true pairs after stack rest i_in at e m n h = first_same places i _ after _ rest m.completed m.popped (first_meet places i pairs stack i_in (sym at ∙ e) m.some h)
first_leaf places i x false pairs after stack rest i_in at e m n h = first_same places i pairs after stack rest n.same_pairs n.same_stack (first_loose places i pairs stack i_in (sym at ∙ e) n.none h)

pub first_bracket : (places : List ℕ) (i x : ℕ) (pairs : List (ℕ × ℕ)) (stack : List ℕ) → i < length places → x ≡ slice_index places i → x ≢ BUD → x ≢ LEAF → IsFirstTurn places i pairs stack → IsFirstTurn places (i + 1) pairs stack
first_bracket places i x pairs stack i_in at no_bud no_leaf h = rw add-one (first_other places i pairs stack i_in (λ e. no_bud (at ∙ e)) (λ e. no_leaf (at ∙ e)) h)

pub second_start : (places : List ℕ) (n : ℕ) (pairs : List (ℕ × ℕ)) (stack free : List ℕ) → n ≡ length places → free ≡ [] → IsFirstTurn places n pairs stack → IsSecondTurn places (length stack) 0 pairs stack 0 free
second_start places n pairs stack free e f h =
    subst (λ (s : List ℕ). IsSecondTurn places (length stack) 0 pairs stack 0 s) (sym f) (second_none places pairs stack (subst (λ (m : ℕ). IsFirstTurn places m pairs stack) e h))

pub second_opens : (places : List ℕ) (waited q x : ℕ) (pairs : List (ℕ × ℕ)) (stack : List ℕ) (inner : ℕ) (free : List ℕ) → x ≡ slice_index places q → x ≡ BUD → IsSecondTurn places waited q pairs stack inner free → IsSecondTurn places waited (q + 1) pairs stack (inner + 1) free
second_opens places waited q x pairs stack inner free at e h = rw (add-one, add-one) (second_bud places waited q pairs stack inner free (sym at ∙ e) h)

pub second_closes : (places : List ℕ) (waited q x : ℕ) (pairs : List (ℕ × ℕ)) (stack : List ℕ) (inner : ℕ) (free : List ℕ) → HasSurplus places → q < length places → x ≡ slice_index places q → x ≡ LEAF → 0 < inner → IsSecondTurn places waited q pairs stack inner free → IsSecondTurn places waited (q + 1) pairs stack (inner - 1) free
second_closes places waited q x pairs stack inner free s q_in at e some h =
    let back : inner ≡ suc (inner - 1) = omega arith in
    rw add-one (second_inner_leaf places waited q pairs stack (inner - 1) free s q_in (sym at ∙ e) (subst (λ (n : ℕ). IsSecondTurn places waited q pairs stack n free) back h))

second_same : (places : List ℕ) (waited q : ℕ) (pairs after : List (ℕ × ℕ)) (stack rest : List ℕ) (inner : ℕ) (free : List ℕ) → inner ≡ 0 → after ≡ pairs → rest ≡ stack → IsSecondTurn places waited (suc q) pairs stack 0 free → IsSecondTurn places waited (q + 1) after rest inner free
second_same places waited q pairs after stack rest inner free n e f h =
    rw add-one (subst (λ (p : List (ℕ × ℕ)). IsSecondTurn places waited (suc q) p rest inner free) (sym e) (subst (λ (t : List ℕ). IsSecondTurn places waited (suc q) pairs t inner free) (sym f) (subst (λ (m : ℕ). IsSecondTurn places waited (suc q) pairs stack m free) (sym n) h)))

pub second_meets : (places : List ℕ) (waited q x : ℕ) (pairs after : List (ℕ × ℕ)) (stack rest : List ℕ) (inner : ℕ) (free : List ℕ) → HasSurplus places → q < length places → x ≡ slice_index places q → x ≡ LEAF → inner ≤ 0 → Meets pairs after stack rest q → IsSecondTurn places waited q pairs stack inner free → IsSecondTurn places waited (q + 1) after rest inner free
second_meets places waited q x pairs after stack rest inner free s q_in at e none met h =
    let no_inner : inner ≡ 0 = omega arith in
    second_same places waited q _ after _ rest inner free no_inner met.completed met.popped (second_meet places waited q pairs stack free s q_in (sym at ∙ e) met.some (subst (λ (n : ℕ). IsSecondTurn places waited q pairs stack n free) no_inner h))

pub second_passes : (places : List ℕ) (waited q x : ℕ) (pairs after : List (ℕ × ℕ)) (stack rest : List ℕ) (inner : ℕ) (free : List ℕ) → x ≡ slice_index places q → x ≡ LEAF → inner ≤ 0 → Passes pairs after stack rest → IsSecondTurn places waited q pairs stack inner free → IsSecondTurn places waited (q + 1) after rest inner (free ++ q ∷ [])
second_passes places waited q x pairs after stack rest inner free at e none passed h =
    let no_inner : inner ≡ 0 = omega arith in
    second_same places waited q pairs after stack rest inner _ no_inner passed.same_pairs passed.same_stack (second_loose places waited q pairs stack free (sym at ∙ e) passed.none (subst (λ (k : ℕ). IsSecondTurn places waited q pairs stack k free) no_inner h))

pub second_bracket : (places : List ℕ) (waited q x : ℕ) (pairs : List (ℕ × ℕ)) (stack : List ℕ) (inner : ℕ) (free : List ℕ) → q < length places → x ≡ slice_index places q → x ≢ BUD → x ≢ LEAF → IsSecondTurn places waited q pairs stack inner free → IsSecondTurn places waited (q + 1) pairs stack inner free
second_bracket places waited q x pairs stack inner free q_in at no_bud no_leaf h = rw add-one (second_other places waited q pairs stack inner free q_in (λ e. no_bud (at ∙ e)) (λ e. no_leaf (at ∙ e)) h)

-- what stands after both turns
pub record IsDone (places : List ℕ) (pairs : List (ℕ × ℕ)) (free : List ℕ) : Type 0 where
  pub two : length free ≡ 2
  pub pairing : IsPairing places (found pairs free)

pub done : (letters : List ℕ) (n q : ℕ) (listed pairs : List (ℕ × ℕ)) (waiting stack : List ℕ) (inner : ℕ) (free : List ℕ) → count LEAF (contour letters) ≡ count BUD (contour letters) + 2 → n ≡ length (contour letters) → q ≡ length (contour letters)
    → IsFirstTurn (contour letters) n listed waiting → IsSecondTurn (contour letters) (length waiting) q pairs stack inner free → IsDone (contour letters) pairs free
done letters n q listed pairs waiting stack inner free s e f first second =
    let places = contour letters in
    let surplus = surplus_from (contour letters) s in
    let turn : IsSecondTurn places (length waiting) (length places) pairs stack inner free = subst (λ (k : ℕ). IsSecondTurn places (length waiting) k pairs stack inner free) f second in
    let high : length waiting + 0 ≡ length waiting = omega arith in
    let rise : IsRise places (length places) (length waiting) = subst (λ (k : ℕ). IsRise places k (length waiting)) e (subst (λ (c : ℕ). IsRise places n c) high first.reading.rise) in
    record { two = two_free places (length waiting) pairs stack inner free surplus rise turn; pairing = pairing_from places (length waiting) pairs stack inner free surplus rise turn }

pub pairing_read : (places : List ℕ) (pairs : List (ℕ × ℕ)) (free : List ℕ) (a b : ℕ) → IsDone places pairs free → a ≡ get_or free 0 a → b ≡ get_or free 1 b → IsPairing places (record { pairs = pairs; first_free = a; second_free = b })
pairing_read places pairs free a b h e f =
    let two = h.two in
    let first = get_or_read free 0 a (omega arith) e 0 in
    let second = get_or_read free 1 b (omega arith) f 0 in
    subst (λ (x : ℕ). IsPairing places (record { pairs = pairs; first_free = x; second_free = b })) (sym first)
    (subst (λ (y : ℕ). IsPairing places (record { pairs = pairs; first_free = get_or free 0 0; second_free = y })) (sym second) h.pairing)
