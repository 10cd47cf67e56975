-- Plane trees and their words go over into one another.
use Rattle.std.proofs.Common.{◌≡◌, ℕ, zero, suc, ◌+◌, ◌<◌, ◌≤◌, List, [], ◌∷◌, ◌++◌, length, map, get_or, take, drop, refl, ap, sym, ◌∙◌, subst, arith, append_assoc, pos, negsuc, ◌+ℤ◌, ◌≤ℤ◌, ℤ}
use Rattle.std.proofs.lemmas.Int.{ints}
use Rattle.std.proofs.lemmas.List.{append-nil, take-append-drop}
use Rattle.pm_words.specs.Word.{sum_of, IsWord, IsGood}
use Rattle.pm_words.specs.Plane.{Trees, none, tree, how_many, letter_of, words_of, word_of, children_of, first_trees, trees_after, trees_of, subtrees_of}
use Rattle.pm_words.specs.PlaneCode.{trees_of-words_of}
use Rattle.pm_words.proofs.Heights.{sum_of-append}

word_of-tree : (subtrees : Trees) → words_of (tree subtrees none) ≡ word_of subtrees
word_of-tree subtrees = ap (λ w. letter_of (how_many subtrees) ∷ w) (append-nil (words_of subtrees))

pub subtrees_of-word_of : (subtrees : Trees) → subtrees_of (trees_of (word_of subtrees)) ≡ subtrees
subtrees_of-word_of subtrees =
    ap (λ w. subtrees_of (trees_of w)) (sym (word_of-tree subtrees)) ∙ ap subtrees_of (trees_of-words_of (tree subtrees none))

pub word_of-injective : (first second : Trees) → word_of first ≡ word_of second → first ≡ second
word_of-injective first second same =
    sym (subtrees_of-word_of first) ∙ ap (λ w. subtrees_of (trees_of w)) same ∙ subtrees_of-word_of second

-- the ends of a word that have a letter sum to -1 at most
pub record HasLowEnds (word : List ℤ) : Type 0 where
  pub low : (prefix : ℕ) → prefix < length word → sum_of (drop prefix word) ≤ℤ negsuc 0

pub sum_of-cons : (letter : ℤ) (later : List ℤ) → sum_of (letter ∷ later) ≡ letter +ℤ sum_of later
sum_of-cons letter later =
    let parts : sum_of (letter ∷ later) ≡ sum_of (letter ∷ []) +ℤ sum_of later = sum_of-append (letter ∷ []) later in
    omega (arith, ints, parts)

sum_of-ends : (word : List ℤ) → HasLowEnds word → sum_of word ≤ℤ pos 0
sum_of-ends [] ends = omega (arith, ints)
sum_of-ends (letter ∷ later) ends = omega (arith, ints, ends.low 0 (omega arith))

HasLowEnds-cons : (letter : ℤ) (later : List ℤ) → sum_of (letter ∷ later) ≤ℤ negsuc 0 → HasLowEnds later → HasLowEnds (letter ∷ later)
HasLowEnds-cons letter later low ends = record { low = go }
  where
    go : (prefix : ℕ) → prefix < suc (length later) → sum_of (drop prefix (letter ∷ later)) ≤ℤ negsuc 0
    go zero inside = low
    go (suc prefix) inside = ends.low prefix (omega arith)

HasLowEnds-tail : (letter : ℤ) (later : List ℤ) → HasLowEnds (letter ∷ later) → HasLowEnds later
HasLowEnds-tail letter later ends = record { low = λ prefix inside. ends.low (suc prefix) (omega arith) }

IsWord-cons : (letter : ℤ) (later : List ℤ) → negsuc 0 ≤ℤ letter → IsWord later → IsWord (letter ∷ later)
IsWord-cons letter later least is_word = record { least = go }
  where
    go : (place : ℕ) → place < suc (length later) → negsuc 0 ≤ℤ get_or (letter ∷ later) place (pos 0)
    go zero inside = least
    go (suc place) inside = is_word.least place (omega arith)

IsWord-tail : (letter : ℤ) (later : List ℤ) → IsWord (letter ∷ later) → IsWord later
IsWord-tail letter later is_word = record { least = λ place inside. is_word.least (suc place) (omega arith) }

-- the letters of nodes with so many children
pub letters-word : {X : Type 0} (children : X → ℕ) (xs : List X) → IsWord (map (λ x. letter_of (children x)) xs)
letters-word children [] = record { least = λ place inside. absurd (omega arith) }
letters-word children (x ∷ xs) = IsWord-cons (letter_of (children x)) (map (λ x. letter_of (children x)) xs) (least (children x)) (letters-word children xs) where
  least : (many : ℕ) → negsuc 0 ≤ℤ letter_of many
  least zero = omega (arith, ints)
  least (suc more) = omega (arith, ints)

pub letter_of-is : (many : ℕ) → letter_of many +ℤ pos 1 ≡ pos many
letter_of-is zero = refl
letter_of-is (suc more) = omega (arith, ints)

sum_of-words_of : (trees : Trees) → sum_of (words_of trees) +ℤ pos (how_many trees) ≡ pos 0
sum_of-words_of none = refl
sum_of-words_of (tree subtrees others) =
    omega (arith, ints, sum_of-cons (letter_of (how_many subtrees)) (words_of subtrees ++ words_of others), sum_of-append (words_of subtrees) (words_of others), letter_of-is (how_many subtrees), sum_of-words_of subtrees, sum_of-words_of others)

IsWord-words_of : (trees : Trees) (rest : List ℤ) → IsWord rest → IsWord (words_of trees ++ rest)
IsWord-words_of none rest is_word = is_word
IsWord-words_of (tree subtrees others) rest is_word =
    IsWord-cons (letter_of (how_many subtrees)) ((words_of subtrees ++ words_of others) ++ rest) (omega (arith, ints, letter_of-is (how_many subtrees)))
    (let P : List ℤ → Type 0 = IsWord in subst P (sym (append_assoc (words_of subtrees) (words_of others) rest)) (IsWord-words_of subtrees (words_of others ++ rest) (IsWord-words_of others rest is_word)))

HasLowEnds-words_of : (trees : Trees) (rest : List ℤ) → HasLowEnds rest → HasLowEnds (words_of trees ++ rest)
HasLowEnds-words_of none rest ends = ends
HasLowEnds-words_of (tree subtrees others) rest ends =
    HasLowEnds-cons (letter_of (how_many subtrees)) ((words_of subtrees ++ words_of others) ++ rest)
    (omega (
      arith,
      ints,
      sum_of-cons (letter_of (how_many subtrees)) ((words_of subtrees ++ words_of others) ++ rest),
      sum_of-append (words_of subtrees ++ words_of others) rest,
      sum_of-append (words_of subtrees) (words_of others),
      letter_of-is (how_many subtrees),
      sum_of-words_of subtrees,
      sum_of-words_of others,
      sum_of-ends rest ends,
    ))
    (let P : List ℤ → Type 0 = HasLowEnds in subst P (sym (append_assoc (words_of subtrees) (words_of others) rest)) (HasLowEnds-words_of subtrees (words_of others ++ rest) (HasLowEnds-words_of others rest ends)))

sum_of-split : (word : List ℤ) (prefix : ℕ) → sum_of word ≡ sum_of (take prefix word) +ℤ sum_of (drop prefix word)
sum_of-split word prefix = ap sum_of (sym (take-append-drop prefix word)) ∙ sum_of-append (take prefix word) (drop prefix word)

HasLowEnds-good : (word : List ℤ) → IsGood 1 word → HasLowEnds word
HasLowEnds-good word good = record { low = λ prefix inside. omega (arith, ints, sum_of-split word prefix, good.sum, good.above prefix inside) }

IsGood-low : (word : List ℤ) → sum_of word ≡ negsuc 0 → HasLowEnds word → IsGood 1 word
IsGood-low word sum ends = record { sum = sum; above = λ prefix inside. omega (arith, ints, sum_of-split word prefix, sum, ends.low prefix inside) }

pub IsWord-word_of : (subtrees : Trees) → IsWord (word_of subtrees)
IsWord-word_of subtrees =
    let P : List ℤ → Type 0 = IsWord in
    subst P (append-nil (words_of (tree subtrees none)) ∙ word_of-tree subtrees) (IsWord-words_of (tree subtrees none) [] (record { least = λ place inside. absurd (omega arith) }))

pub IsGood-word_of : (subtrees : Trees) → IsGood 1 (word_of subtrees)
IsGood-word_of subtrees =
    let P : List ℤ → Type 0 = HasLowEnds in
    let ends : HasLowEnds (word_of subtrees) = subst P (append-nil (words_of (tree subtrees none)) ∙ word_of-tree subtrees) (HasLowEnds-words_of (tree subtrees none) [] (record { low = λ prefix inside. absurd (omega arith) })) in
    IsGood-low (word_of subtrees) (omega (arith, ints, sum_of-words_of (tree subtrees none), ap sum_of (word_of-tree subtrees))) ends

-- a word without high ends is read as trees whose words it is
record IsRead (word : List ℤ) : Type 0 where
  words : words_of (trees_of word) ≡ word
  many : pos (how_many (trees_of word)) +ℤ sum_of word ≡ pos 0

how_many-first_trees : (many : ℕ) (trees : Trees) → many ≤ how_many trees → how_many (first_trees many trees) ≡ many
how_many-first_trees zero trees within = refl
how_many-first_trees (suc many) none within = absurd (omega arith)
how_many-first_trees (suc many) (tree subtrees others) within = ap suc (how_many-first_trees many others (omega arith))

how_many-trees_after : (many : ℕ) (trees : Trees) → many ≤ how_many trees → how_many (trees_after many trees) + many ≡ how_many trees
how_many-trees_after zero trees within = omega arith
how_many-trees_after (suc many) none within = absurd (omega arith)
how_many-trees_after (suc many) (tree subtrees others) within = omega (arith, how_many-trees_after many others (omega arith))

words_of-parts : (many : ℕ) (trees : Trees) → words_of (first_trees many trees) ++ words_of (trees_after many trees) ≡ words_of trees
words_of-parts zero trees = refl
words_of-parts (suc many) none = refl
words_of-parts (suc many) (tree subtrees others) =
    ap (λ w. letter_of (how_many subtrees) ∷ w)
    (append_assoc (words_of subtrees) (words_of (first_trees many others)) (words_of (trees_after many others)) ∙ ap (λ w. words_of subtrees ++ w) (words_of-parts many others))

letter_of-children_of : (letter : ℤ) → negsuc 0 ≤ℤ letter → letter_of (children_of letter) ≡ letter
letter_of-children_of (pos more) least = refl
letter_of-children_of (negsuc zero) least = refl
letter_of-children_of (negsuc (suc less)) least = absurd (omega (arith, ints))

children_of-is : (letter : ℤ) → negsuc 0 ≤ℤ letter → pos (children_of letter) ≡ letter +ℤ pos 1
children_of-is letter least = omega (arith, ints, letter_of-is (children_of letter), letter_of-children_of letter least)

is_read : (word : List ℤ) → IsWord word → HasLowEnds word → IsRead word
is_read [] is_word ends = record { words = refl; many = refl }
is_read (letter ∷ later) is_word ends =
    let rest : IsRead later = is_read later (IsWord-tail letter later is_word) (HasLowEnds-tail letter later ends) in
    let least : negsuc 0 ≤ℤ letter = is_word.least 0 (omega arith) in
    let sum = sum_of-cons letter later in
    let within : children_of letter ≤ how_many (trees_of later) = omega (arith, ints, ends.low 0 (omega arith), sum, children_of-is letter least, rest.many) in
    let first = how_many-first_trees (children_of letter) (trees_of later) within in
    record {
      words = ap (λ n. letter_of n ∷ (words_of (first_trees (children_of letter) (trees_of later)) ++ words_of (trees_after (children_of letter) (trees_of later)))) first
          ∙ ap (λ l. l ∷ (words_of (first_trees (children_of letter) (trees_of later)) ++ words_of (trees_after (children_of letter) (trees_of later)))) (letter_of-children_of letter least)
          ∙ ap (λ w. letter ∷ w) (words_of-parts (children_of letter) (trees_of later) ∙ rest.words);
      many = omega (arith, ints, sum, children_of-is letter least, rest.many, how_many-trees_after (children_of letter) (trees_of later) within);
    }

word_of-first : (trees : Trees) → how_many trees ≡ 1 → word_of (subtrees_of trees) ≡ words_of trees
word_of-first none one = absurd (omega arith)
word_of-first (tree subtrees none) one = sym (word_of-tree subtrees)
word_of-first (tree subtrees (tree more others)) one = absurd (omega arith)

-- a good word is the word of the tree that is read from it
pub word_of-subtrees_of : (word : List ℤ) → IsWord word → IsGood 1 word → word_of (subtrees_of (trees_of word)) ≡ word
word_of-subtrees_of word is_word good =
    let read : IsRead word = is_read word is_word (HasLowEnds-good word good) in
    word_of-first (trees_of word) (omega (arith, ints, read.many, good.sum)) ∙ read.words
