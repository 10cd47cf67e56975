-- The letters of a tree and its plant make edges in twos.
use Rattle.std.proofs.Common.{◌≡◌, ℕ, suc, ◌+◌, ◌*◌, List, [], ◌∷◌, length, All, IsTrue, arith}
use Rattle.std.proofs.lemmas.List.Elements.{All-head, All-tail}
use Rattle.pm_trees.specs.declared.letters.TheConstants.{LEAF, BUD}
use Rattle.pm_brackets.specs.declared.letters.TheConstants.{OPEN, CLOSE}
use Rattle.pm_trees.specs.Word.{contour, is_letter}
use Rattle.pm_trees.specs.Blossoming.{IsBlossoming, edges}
use Rattle.pm_brackets.proofs.Tally.{tally, tally_is, tally-nil, tally_yes, tally_no}
use Rattle.pm_trees.proofs.FourLetters.{letter_cases}
use Rattle.pm_trees.proofs.FourLetters.IsOneOf.{a_leaf, a_bud, an_open, a_close}
use Rattle.pm_trees.proofs.Balance.{two_more_leaves}

-- each letter is counted once
letters_counted : (xs : List ℕ) → All (λ x. IsTrue (is_letter x)) xs → tally LEAF xs + tally BUD xs + tally OPEN xs + tally CLOSE xs ≡ length xs
letters_counted [] all = omega (arith, tally-nil LEAF, tally-nil BUD, tally-nil OPEN, tally-nil CLOSE)
letters_counted (x ∷ xs) all =
    let rest = letters_counted xs (All-tail (λ y. IsTrue (is_letter y)) x xs all) in
    elim (letter_cases x (All-head (λ y. IsTrue (is_letter y)) x xs all)) [
      | a_leaf e ↦ omega (arith, rest, tally_yes LEAF x xs e, tally_no BUD x xs (λ h. omega arith), tally_no OPEN x xs (λ h. omega arith), tally_no CLOSE x xs (λ h. omega arith))
      | a_bud e ↦ omega (arith, rest, tally_no LEAF x xs (λ h. omega arith), tally_yes BUD x xs e, tally_no OPEN x xs (λ h. omega arith), tally_no CLOSE x xs (λ h. omega arith))
      | an_open e ↦ omega (arith, rest, tally_no LEAF x xs (λ h. omega arith), tally_no BUD x xs (λ h. omega arith), tally_yes OPEN x xs e, tally_no CLOSE x xs (λ h. omega arith))
      | a_close e ↦ omega (arith, rest, tally_no LEAF x xs (λ h. omega arith), tally_no BUD x xs (λ h. omega arith), tally_no OPEN x xs (λ h. omega arith), tally_yes CLOSE x xs e)
    ]

-- no place is left over
pub edges_twice : (word : List ℕ) → IsBlossoming word → 2 * edges word ≡ suc (length word)
edges_twice word tree =
    let all = letters_counted word tree.in_order.letters in
    let matched = tree.in_order.matched.equal in
    let surplus = two_more_leaves word tree in
    omega (
      arith,
      all,
      matched,
      surplus,
      tally_is OPEN word,
      tally_is CLOSE word,
      tally_is LEAF (contour word),
      tally_is BUD (contour word),
      tally_yes LEAF LEAF word (omega arith),
      tally_no BUD LEAF word (λ h. omega arith),
    )
