-- The word of the whole tree is in order, and each of its stems closes ahead.
use Rattle.std.proofs.Common.{◌≡◌, ℕ, suc, ◌+◌, ◌-◌, ◌<◌, ◌≤◌, List, [], ◌∷◌, All, IsTrue, length, take, refl, sym, subst, arith, take_all}
use Rattle.std.proofs.lemmas.List.Elements.{All-append, All-take}
use Rattle.pm_brackets.specs.Word.{IsMatched, between, is_letter_of}
use Rattle.pm_brackets.specs.declared.letters.TheConstants.{OPEN, CLOSE}
use Rattle.pm_brackets.proofs.Levels.{IsEven, even_from_matched, even_from_pair, even_pair, matched_from_even, seen, seen_no}
use Rattle.pm_tri.specs.declared.letters.TheConstants.{STEM}
use Rattle.pm_tri.specs.Runs.{IsBalanced}
use Rattle.pm_tri.specs.StemTree.{IsInOrder, IsStemTree, contour}
use Rattle.pm_tri.specs.Whole.{whole}
use Rattle.pm_tri.proofs.RunStarts.{two_runs}
use Rattle.pm_triclose.specs.WholeClosure.{ClosesAhead}
use Rattle.pm_triclose.proofs.TreeRing.{closes_somewhere}
use Rattle.pm_triclose.proofs.WholeBrackets.{outer, seen_alike}
use Rattle.pm_triclose.proofs.WholeOf.{IsWholeOf, second_start, whole_of}

-- the letters behind the plant, as a list of letters of their own
between_whole : (word : List ℕ) (q : ℕ) → q ≡ suc (length word) → between (contour word) 0 q ≡ word
between_whole word q e = let l : length word ≤ q - 1 = omega (arith, e) in take_all (q - 1) word l

module _ (places all : List ℕ) (last start : ℕ) (w : IsWholeOf places all last start) where
  whole_even : IsEven places 0 (suc last) → IsEven all 0 (suc (last + 3))
  whole_even even =
      let some = w.some in
      let end = w.end in
      let o = seen_no OPEN places last (λ e. omega (arith, e, end)) in
      let c = seen_no CLOSE places last (λ e. omega (arith, e, end)) in
      let same : (x : ℕ) → 0 < x → (k : ℕ) → k ≤ last → seen x all k ≡ seen x places k = seen_alike all places last w.kept in
      let opens = same OPEN (omega arith) in
      let closes = same CLOSE (omega arith) in
      let before : IsEven all 0 last = record {
        equal = omega (arith, even.equal, o, c, opens last (omega arith), closes last (omega arith), opens 1 (omega (arith, some)), closes 1 (omega (arith, some)));
        below = λ j l m. omega (arith, even.below j l (omega (arith, m)), opens j m, closes j m, opens 1 (omega (arith, some)), closes 1 (omega (arith, some)));
      } in
      even_pair all 0 last (last + 3) some (omega arith) w.first w.fourth before (even_from_pair all last (last + 3) (outer places all last start w))

module _ (word : List ℕ) (t : IsStemTree word) (b : IsBalanced (contour word)) where
  pub other_run : (start : ℕ) × IsWholeOf (contour word) (contour (whole word)) (length word) start
  other_run = let two = two_runs word t in (two.later, whole_of word t b two.later (second_start (contour word) b two))

  whole_matched : IsMatched (whole word)
  whole_matched =
      let w = other_run.1 in
      let wide = w.wide in
      let even = even_from_matched (contour word) 0 (suc (length word)) (omega arith) (subst IsMatched (sym (between_whole word (suc (length word)) refl)) t.in_order.matched) in
      subst IsMatched (between_whole (whole word) (suc (length word + 3)) (omega (arith, wide)))
      (matched_from_even (contour (whole word)) 0 (suc (length word + 3)) (omega arith) (whole_even (contour word) (contour (whole word)) (length word) other_run.0 w even))

  pub whole_in_order : IsInOrder (whole word)
  whole_in_order = record {
    letters = All-append (λ (x : ℕ). IsTrue (is_letter_of (STEM ∷ []) x)) (take (length word - 1) word) (OPEN ∷ OPEN ∷ CLOSE ∷ CLOSE ∷ [])
        (All-take (λ (x : ℕ). IsTrue (is_letter_of (STEM ∷ []) x)) (length word - 1) word t.in_order.letters) new_letters;
    matched = whole_matched;
  } where
    new_letters : All (λ (x : ℕ). IsTrue (is_letter_of (STEM ∷ []) x)) (OPEN ∷ OPEN ∷ CLOSE ∷ CLOSE ∷ [])
    new_letters = grind arith

  pub whole_ahead : ClosesAhead (contour (whole word))
  whole_ahead = closes_somewhere (contour word) (contour (whole word)) (length word) other_run.0 other_run.1
