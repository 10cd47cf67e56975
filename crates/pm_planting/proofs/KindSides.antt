-- Plane trees with bud patterns by the kinds of their objects.
use Rattle.std.proofs.Common.{◌≡◌, ℕ, suc, ◌+◌, ℤ, List, [], ◌∷◌, ◌++◌, length, refl, ap, sym, ◌∙◌, subst, arith, length-append, append-nil}
use Rattle.std.specs.Prelude.{sum}
use Rattle.std.proofs.lemmas.List.{map-append}
use Rattle.std.proofs.lemmas.List.Sums.{sum_by-append, sum_by-cons}
use Rattle.pm_brackets.specs.declared.letters.TheConstants.{OPEN, CLOSE}
use Rattle.pm_words.specs.Word.{IsGood}
use Rattle.pm_words.specs.Plane.{Trees, none as no_trees, tree, how_many, letter_of, words_of}
use Rattle.pm_words.proofs.PlaneWords.{IsGood-word_of}
use Rattle.pm_planting.specs.Kinds.{AreSides, IsWordOfKinds, half_of, halves_in, letters_in}
use Rattle.pm_planting.specs.Kinds.AreSides.{none, leaf, node}
use Rattle.pm_planting.specs.declared.kind.Kind.{Kind}
use Rattle.pm_planting.proofs.KindPatterns.{kind_pattern}
use Rattle.pm_planting.proofs.RootNodes.{root_node}
use Rattle.pm_planting.proofs.RootRows.{IsRootRow}
use Rattle.pm_planting.proofs.FilledRows.{node_row}
use Rattle.pm_planting.proofs.SideReading.{kinds_rows}

-- the row of the root node
pub kinds_root : (kinds : List Kind) (word : List ℕ) → IsWordOfKinds kinds word → IsRootRow (halves_in kinds) word
kinds_root kinds word h =
    let r = root_node kinds word h in
    let row = node_row (half_of r.kind) r.pattern (halves_in r.below) r.sides (kind_pattern r.kind r.pattern r.has_kind) r.counted (kinds_rows r.below r.sides r.are_sides) in
    subst (λ (ks : List Kind). IsRootRow (halves_in ks) word) (sym r.kinds_are) (subst (IsRootRow (half_of r.kind ∷ halves_in r.below)) r.word_is row)

record HaveTrees (kinds : List Kind) (many : ℕ) : Type 0 where
  trees : Trees
  counted : how_many trees ≡ many
  words : words_of trees ≡ letters_in kinds

kinds_trees : (kinds : List Kind) (texts : List (List ℕ)) → AreSides kinds texts → HaveTrees kinds (length texts)
kinds_trees _ _ none = record { trees = no_trees; counted = refl; words = refl }
kinds_trees _ _ (leaf later texts h) =
    let t = kinds_trees later texts h in
    record { trees = tree no_trees t.trees; counted = ap suc t.counted; words = ap (λ (ls : List ℤ). letter_of 0 ∷ ls) t.words }
kinds_trees _ _ (node kind under later pattern sides texts p h l k) =
    let t = kinds_trees under sides h in
    let u = kinds_trees later texts k in
    let many : how_many t.trees ≡ half_of kind = t.counted ∙ l in
    let split : letters_in (under ++ later) ≡ letters_in under ++ letters_in later = map-append (λ (kind : Kind). letter_of (half_of kind)) under later in
    let a = t.words in
    let b = u.words in
    let both : words_of t.trees ++ words_of u.trees ≡ letters_in (under ++ later) = cc in
    record {
      trees = tree t.trees u.trees;
      counted = ap suc u.counted;
      words = ap (λ (n : ℕ). letter_of n ∷ (words_of t.trees ++ words_of u.trees)) many ∙ ap (λ (ls : List ℤ). letter_of (half_of kind) ∷ ls) both;
    }

good_trees : (trees : Trees) (letters : List ℤ) → how_many trees ≡ 1 → words_of trees ≡ letters → IsGood 1 letters
good_trees no_trees letters one e = absurd (omega (arith, one))
good_trees (tree subtrees no_trees) letters one e = subst (IsGood 1) (ap (λ (ls : List ℤ). letter_of (how_many subtrees) ∷ ls) (sym (append-nil (words_of subtrees))) ∙ e) (IsGood-word_of subtrees)
good_trees (tree subtrees (tree first others)) letters one e = absurd (omega (arith, one))

-- they are a good word
pub kinds_good : (kinds : List Kind) (word : List ℕ) → IsWordOfKinds kinds word → IsGood 1 (letters_in kinds)
kinds_good kinds word h =
    let t = kinds_trees kinds ((OPEN ∷ word ++ CLOSE ∷ []) ∷ []) h in
    good_trees t.trees (letters_in kinds) t.counted t.words

-- each tree is counted once among the children of an object or as a first one
pub kinds_long : (kinds : List Kind) (texts : List (List ℕ)) → AreSides kinds texts → length kinds ≡ length texts + sum (halves_in kinds)
kinds_long _ _ none = refl
kinds_long _ _ (leaf later texts h) = let a = kinds_long later texts h in omega (arith, a, sum_by-cons (λ x. x) 0 (halves_in later))
kinds_long _ _ (node kind under later pattern sides texts p h l k) =
    let a = kinds_long under sides h in
    let b = kinds_long later texts k in
    let c = ap sum (map-append half_of under later) in
    omega (arith, a, b, c, l, length-append under later, sum_by-append (λ x. x) (halves_in under) (halves_in later), sum_by-cons (λ x. x) (half_of kind) (halves_in (under ++ later)))
