-- A tree has a closure.
use Rattle.std.proofs.Common.{◌≡◌, ℕ, suc, ◌%◌, ◌<◌, inl, inr, List, length, map, sym, ap, subst, ◌∙◌, arith}
use Rattle.std.specs.Prelude.{slice_index}
use Rattle.std.specs.List.{range_with_len}
use Rattle.std.proofs.lemmas.Bool.{cases_lt}
use Rattle.std.proofs.lemmas.List.FromFn.{get_or-map-range_with_len, length-map-range_with_len}
use Rattle.pm_perm.proofs.InverseLemmas.{place_of, place_of-of_value}
use Rattle.pm_perm.specs.Permutation.{IsPermutationBelow}
use Rattle.pm_trees.specs.Word.{contour, IsInOrder}
use Rattle.pm_brackets.specs.Word.{IsBracketing}
use Rattle.pm_trees.proofs.Balance.{two_more_leaves}
use Rattle.pm_trees.proofs.FourLetters.{bracketing_exists}
use Rattle.pm_trees.proofs.FourLetters.{letters_at}
use Rattle.pm_trees.proofs.FourLetters.{letter_cases, a_leaf, a_bud, an_open, a_close}
use Rattle.pm_match.specs.Pair.{IsFree}
use Rattle.pm_match.specs.Pairing.{Pairs, IsPairing}
use Rattle.pm_match.proofs.Paired.{pairing_exists}
use Rattle.pm_map.specs.Rotation.{RotationSystem}
use Rattle.pm_close.specs.Closure.{AreTwins, edge_down, edge_up, pair_bud, pair_leaf, free_leaves, IsClosed}
use Rattle.pm_map.specs.EdgeNumbers.{dart_of}
use Rattle.pm_close.specs.Laws.{EachTreeCloses}
use Rattle.pm_close.proofs.ClosureLemmas.{IsLaidOut, laid_out_twins, bracketing_across}
use Rattle.pm_map.proofs.NumberedEdges.{dart_of_permutes}
use Rattle.pm_close.proofs.JoiningSteps.{one_partner}
use Rattle.pm_close.proofs.ClosedMap.{rotation_closes}

-- each place of a tree has a twin
some_twin : (word other : List ℕ) (found : Pairs) → IsInOrder word → IsBracketing (contour word) other → IsPairing (contour word) found
    → (p : ℕ) → p < length (contour word) → (q : ℕ) × AreTwins (contour word) p q
some_twin word other found order bracketing pairing p l = elim (letter_cases (slice_index (contour word) p) (letters_at word p order.letters l)) [
  | a_leaf e ↦ elim (pairing.each_leaf p e) [
    | inl pair ↦ (pair.0, pair_leaf pair.1)
    | inr free ↦ elim free [
      | inl first ↦
          (found.second_free, free_leaves (subst (IsFree (contour word)) (sym first) pairing.free.first_is) pairing.free.second_is (λ same. apart found p pairing.free.in_order first same))
      | inr second ↦
          (found.first_free, free_leaves (subst (IsFree (contour word)) (sym second) pairing.free.second_is) pairing.free.first_is (λ same. apart found p pairing.free.in_order same second))
    ]
  ]
  | a_bud e ↦ let pair = pairing.each_bud p e in (pair.0, pair_bud pair.1)
  | an_open e ↦ (slice_index other p, edge_down (bracketing.of_open p e))
  | a_close e ↦ (slice_index other p, edge_up (bracketing.of_close p e))
] where
  apart : (found : Pairs) (p : ℕ) → found.first_free < found.second_free → p ≡ found.first_free → p ≡ found.second_free → ⊥
  apart found p less first second = omega arith

-- the twins as a function
twin_of : (word other : List ℕ) (found : Pairs) → IsInOrder word → IsBracketing (contour word) other → IsPairing (contour word) found
    → (p : ℕ) → (q : ℕ) × (p < length (contour word) → AreTwins (contour word) p q)
twin_of word other found order bracketing pairing p = elim (cases_lt p (length (contour word))) [
  | inl l ↦ let here = some_twin word other found order bracketing pairing p l in (here.0, λ _. here.1)
  | inr m ↦ (0, λ l. absurd (omega arith))
]

-- the dart of the place after the one across, from the dart of a place
abbrev dart_after : ℕ → (ℕ → ℕ) → (ℕ → ℕ) → ℕ → ℕ
dart_after n across t d = dart_of t (suc (across (place_of (dart_of t) n d)) % n)

-- places that are laid out have a closure
laid_out_closed : (places : List ℕ) (across t : ℕ → ℕ) → IsLaidOut places across t → 0 < length places → (map : RotationSystem) × IsClosed places map
laid_out_closed places across t layout some = (
  record { sigma = map (dart_after (length places) across t) (range_with_len 0 (length places)); root = 0 },
  rotation_closes places (map (dart_after (length places) across t) (range_with_len 0 (length places))) across t layout
      (length-map-range_with_len (dart_after (length places) across t) 0 (length places))
      (λ p l. entry (length places) across t (dart_of_permutes (length places) t (laid_out_twins places across t layout)) p l) some,
) where
  entry : (n : ℕ) (across t : ℕ → ℕ) → IsPermutationBelow n (dart_of t) → (p : ℕ) → p < n
      → slice_index (map (dart_after n across t) (range_with_len 0 n)) (dart_of t p) ≡ dart_of t (suc (across p) % n)
  entry n across t permutes p l =
      get_or-map-range_with_len (dart_after n across t) 0 n (dart_of t p) (dart_of t p) 0 (permutes.stays p l) (omega arith)
      ∙ ap (λ (q : ℕ). dart_of t (suc (across q) % n)) (place_of-of_value (dart_of t) n p permutes l)

-- a blossoming tree has a closure
pub each_tree_closes : EachTreeCloses
each_tree_closes word tree =
    let bracketing = bracketing_exists word tree.in_order in
    let pairing = pairing_exists word (two_more_leaves word tree) in
    let twins = twin_of word bracketing.0 pairing.0 tree.in_order bracketing.1 pairing.1 in
    let layout : IsLaidOut (contour word) (slice_index bracketing.0) (λ p. (twins p).0) = record {
      one = one_partner (contour word) pairing.0 pairing.1;
      is_across = bracketing_across (contour word) bracketing.0 bracketing.1;
      are_twins = λ p l. (twins p).1 l;
    } in
    laid_out_closed (contour word) (slice_index bracketing.0) (λ p. (twins p).0) layout (omega arith)
