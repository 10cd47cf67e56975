-- How plane trees are stored in a contract: as their words, from which they are read back.
use Rattle.std.specs.Prelude.{◌≡◌, ℕ, zero, suc, ℤ, List, [], ◌++◌, refl}
use Rattle.std.specs.Coded.{Coded, code_by, coded_list, coded_ℤ}
use Rattle.std.proofs.Common.{ap, sym, ◌∙◌, append_assoc}
use Rattle.std.proofs.lemmas.List.{append-nil}
use Rattle.pm_words.specs.Plane.{Trees, none, tree, how_many, letter_of, words_of, children_of, first_trees, trees_after, trees_of}

-- trees, and then further ones
joined : Trees → Trees → Trees
joined none more = more
joined (tree subtrees others) more = tree subtrees (joined others more)

joined-first : (more : Trees) → joined none more ≡ more
unfolding joined
joined-first more = refl

joined-tree : (subtrees others more : Trees) → joined (tree subtrees others) more ≡ tree subtrees (joined others more)
unfolding joined
joined-tree subtrees others more = refl

joined-none : (trees : Trees) → joined trees none ≡ trees
joined-none none = joined-first none
joined-none (tree subtrees others) = joined-tree subtrees others none ∙ ap (tree subtrees) (joined-none others)

first_trees-joined : (trees more : Trees) → first_trees (how_many trees) (joined trees more) ≡ trees
first_trees-joined none more = refl
first_trees-joined (tree subtrees others) more =
    ap (first_trees (suc (how_many others))) (joined-tree subtrees others more) ∙ ap (tree subtrees) (first_trees-joined others more)

trees_after-joined : (trees more : Trees) → trees_after (how_many trees) (joined trees more) ≡ more
trees_after-joined none more = joined-first more
trees_after-joined (tree subtrees others) more =
    ap (trees_after (suc (how_many others))) (joined-tree subtrees others more) ∙ trees_after-joined others more

pub children_of-letter_of : (many : ℕ) → children_of (letter_of many) ≡ many
children_of-letter_of zero = refl
children_of-letter_of (suc more) = refl

-- the words of trees are read back, whatever follows
trees_of-append : (trees : Trees) (rest : List ℤ) → trees_of (words_of trees ++ rest) ≡ joined trees (trees_of rest)
trees_of-append none rest = sym (joined-first (trees_of rest))
trees_of-append (tree subtrees others) rest =
    let later : trees_of ((words_of subtrees ++ words_of others) ++ rest) ≡ joined subtrees (joined others (trees_of rest)) =
    ap trees_of (append_assoc (words_of subtrees) (words_of others) rest) ∙ trees_of-append subtrees (words_of others ++ rest) ∙ ap (joined subtrees) (trees_of-append others rest) in
    let many = children_of-letter_of (how_many subtrees) in
    ap (λ n. tree (first_trees n (trees_of ((words_of subtrees ++ words_of others) ++ rest))) (trees_after n (trees_of ((words_of subtrees ++ words_of others) ++ rest)))) many
    ∙ ap (λ t. tree (first_trees (how_many subtrees) t) (trees_after (how_many subtrees) t)) later
    ∙ ap (λ t. tree t (trees_after (how_many subtrees) (joined subtrees (joined others (trees_of rest))))) (first_trees-joined subtrees (joined others (trees_of rest)))
    ∙ ap (tree subtrees) (trees_after-joined subtrees (joined others (trees_of rest)))
    ∙ sym (joined-tree subtrees others (trees_of rest))

pub trees_of-words_of : (trees : Trees) → trees_of (words_of trees) ≡ trees
trees_of-words_of trees = ap trees_of (sym (append-nil (words_of trees))) ∙ trees_of-append trees [] ∙ joined-none trees

-- trees are stored as their words
abbrev pub trees_code : Coded Trees
trees_code = code_by (List ℤ) (coded_list coded_ℤ) words_of trees_of trees_of-words_of
