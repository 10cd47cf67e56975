-- Each good word of kinds is that of one blossoming tree.
use Rattle.std.proofs.Common.{◌≡◌, ℕ, suc, ◌<◌, ℤ, List, [], ◌∷◌, ◌++◌, length, take, drop, All, refl, sym, ◌∙◌, ap, subst, arith, append_assoc, append-nil, take-append-drop}
use Rattle.std.proofs.Math.Seq.{take-append_seam, drop-append_seam}
use Rattle.std.proofs.lemmas.List.Elements.{All-drop, All-head, All-tail, All-take}
use Rattle.std.proofs.lemmas.List.{append_cancel_left, nil_from_length, take-map, drop-map}
use Rattle.pm_trees.specs.declared.letters.TheConstants.{LEAF}
use Rattle.pm_brackets.specs.declared.letters.TheConstants.{OPEN, CLOSE}
use Rattle.pm_trees.specs.BudPattern.{HasRank}
use Rattle.pm_trees.proofs.Ranked.{patterns_ranked}
use Rattle.pm_words.specs.Word.{IsGood}
use Rattle.pm_words.specs.Plane.{Trees, none, tree, how_many, letter_of, children_of, words_of, word_of, trees_of, subtrees_of}
use Rattle.pm_words.proofs.PlaneWords.{word_of-subtrees_of, letters-word}
use Rattle.pm_words.specs.PlaneCode.{children_of-letter_of}
use Rattle.pm_planting.specs.Kinds.{AreSides, HasKind, IsKind, IsWordOfKinds, filled, half_of, letters_in}
use Rattle.pm_planting.specs.Kinds.AreSides.{none as no_sides, leaf, node}
use Rattle.pm_planting.specs.declared.kind.Kind.{Kind}
use Rattle.pm_planting.specs.declared.kind.Kind.TheVariants.{Leaf, Node}
use Rattle.pm_planting.proofs.KindPatterns.{no_leaf, one_pattern}
use Rattle.pm_planting.proofs.RootNodes.{no_kinds}
use Rattle.pm_planting.proofs.SideTexts.{same_push}

-- the kinds and the texts of as many trees, each at the prefix of the same list of kinds
record AreSameSides (xs ys : List Kind) (texts others : List (List ℕ)) : Type 0 where
  same_kinds : xs ≡ ys
  same_texts : texts ≡ others

same_sides : (xs ys more rest : List Kind) (texts others : List (List ℕ)) → AreSides xs texts → AreSides ys others → length texts ≡ length others → xs ++ more ≡ ys ++ rest → AreSameSides xs ys texts others
same_sides _ _ more rest _ _ no_sides no_sides l e = record { same_kinds = refl; same_texts = refl }
same_sides _ _ more rest _ _ no_sides (leaf later texts h) l e = absurd (omega arith)
same_sides _ _ more rest _ _ no_sides (node kind under later pattern sides texts p h n k) l e = absurd (omega arith)
same_sides _ _ more rest _ _ (leaf later texts h) no_sides l e = absurd (omega arith)
same_sides _ _ more rest _ _ (node kind under later pattern sides texts p h n k) no_sides l e = absurd (omega arith)
same_sides _ _ more rest _ _ (leaf later texts h) (leaf others also k) l e =
    let s = same_sides later others more rest texts also h k (omega arith) cc in
    let p = s.same_kinds in
    let q = s.same_texts in
    record { same_kinds = cc; same_texts = cc }
same_sides _ _ more rest _ _ (leaf later texts h) (node kind under others pattern sides also p i n k) l e = absurd (no_leaf kind pattern p cc)
same_sides _ _ more rest _ _ (node kind under later pattern sides texts p i n k) (leaf others also h) l e = absurd (no_leaf kind pattern p cc)
same_sides _ _ more rest _ _ (node kind under later pattern sides texts p i n h) (node other below others alike fillings also q j m k) l e =
    let f : kind ≡ other = cc in
    let g : (under ++ later) ++ more ≡ (below ++ others) ++ rest = cc in
    let d : under ++ (later ++ more) ≡ below ++ (others ++ rest) = sym (append_assoc under later more) ∙ g ∙ append_assoc below others rest in
    let s = same_sides under below (later ++ more) (others ++ rest) sides fillings i j (n ∙ ap half_of f ∙ sym m) d in
    let u = s.same_kinds in
    let v = s.same_texts in
    let c : later ++ more ≡ others ++ rest = append_cancel_left under (later ++ more) (others ++ rest) (d ∙ ap (λ (xs : List Kind). xs ++ (others ++ rest)) (sym u)) in
    let t = same_sides later others more rest texts also h k (omega arith) c in
    let w = t.same_kinds in
    let x = t.same_texts in
    let r : pattern ≡ alike = one_pattern other pattern alike (subst (λ (k : Kind). HasKind k pattern) f p) q in
    record { same_kinds = cc; same_texts = cc }

-- kinds have one word
pub one_word : (kinds : List Kind) (one other : List ℕ) → IsWordOfKinds kinds one → IsWordOfKinds kinds other → one ≡ other
one_word kinds one other h k =
    let s = same_sides kinds kinds [] [] ((OPEN ∷ one ++ CLOSE ∷ []) ∷ []) ((OPEN ∷ other ++ CLOSE ∷ []) ∷ []) h k refl refl in
    let t = s.same_texts in
    (same_push one other CLOSE CLOSE cc).lists

-- plane trees with objects of these kinds
record HaveSides (kinds : List Kind) (many : ℕ) : Type 0 where
  texts : List (List ℕ)
  are_sides : AreSides kinds texts
  counted : length texts ≡ many

-- a first tree, which is a leaf or a node, before others
one_more : (kind : Kind) (under later : List Kind) (many : ℕ) → IsKind kind → HaveSides under (half_of kind) → HaveSides later many → HaveSides (kind ∷ under ++ later) (suc many)
one_more Leaf under later many is h k =
    let none_under : under ≡ [] = no_kinds under h.texts h.are_sides (nil_from_length h.texts h.counted) in
    record {
      texts = (LEAF ∷ []) ∷ k.texts;
      are_sides = subst (λ (ks : List Kind). AreSides (Leaf ∷ ks ++ later) ((LEAF ∷ []) ∷ k.texts)) (sym none_under) (leaf later k.texts k.are_sides);
      counted = ap suc k.counted;
    }
one_more (Node half rank) under later many is h k =
    let p : (pattern : List ℕ) × HasRank half pattern rank = (patterns_ranked half is.0.some).has_pattern rank is.1 in
    record {
      texts = (OPEN ∷ filled p.0 h.texts ++ CLOSE ∷ []) ∷ k.texts;
      are_sides = node (Node half rank) under later p.0 h.texts k.texts p.1 h.are_sides h.counted k.are_sides;
      counted = ap suc k.counted;
    }

-- kinds whose letters are the words of plane trees
sides_exist : (kinds : List Kind) (trees : Trees) → All IsKind kinds → letters_in kinds ≡ words_of trees → HaveSides kinds (how_many trees)
sides_exist [] none each e = record { texts = []; are_sides = no_sides; counted = refl }
sides_exist (kind ∷ kinds) none each e = cc
sides_exist [] (tree subtrees others) each e = cc
sides_exist (kind ∷ kinds) (tree subtrees others) each e =
    let first : letter_of (half_of kind) ≡ letter_of (how_many subtrees) = cc in
    let half : half_of kind ≡ how_many subtrees = sym (children_of-letter_of (half_of kind)) ∙ ap children_of first ∙ children_of-letter_of (how_many subtrees) in
    let rest : letters_in kinds ≡ words_of subtrees ++ words_of others = cc in
    let n : ℕ = length (words_of subtrees) in
    let under : letters_in (take n kinds) ≡ words_of subtrees =
    sym (take-map (λ (kind : Kind). letter_of (half_of kind)) n kinds) ∙ ap (take n) rest ∙ take-append_seam (words_of subtrees) (words_of others) in
    let later : letters_in (drop n kinds) ≡ words_of others =
    sym (drop-map (λ (kind : Kind). letter_of (half_of kind)) n kinds) ∙ ap (drop n) rest ∙ drop-append_seam (words_of subtrees) (words_of others) in
    let behind = All-tail IsKind kind kinds each in
    let h = sides_exist (take n kinds) subtrees (All-take IsKind n kinds behind) under in
    let k = sides_exist (drop n kinds) others (All-drop IsKind n kinds behind) later in
    subst (λ (ks : List Kind). HaveSides (kind ∷ ks) (suc (how_many others))) (take-append-drop n kinds)
    (one_more kind (take n kinds) (drop n kinds) (how_many others) (All-head IsKind kind kinds each) (subst (HaveSides (take n kinds)) (sym half) h) k)

-- a word of the tree with objects of these kinds
planted_from : (kinds : List Kind) (texts : List (List ℕ)) → AreSides kinds texts → length texts ≡ 1 → 1 < length kinds → (word : List ℕ) × IsWordOfKinds kinds word
planted_from _ _ no_sides l some = absurd (omega arith)
planted_from _ _ (leaf later [] h) l some = absurd (let e = ap length (no_kinds later [] h refl) in omega arith)
planted_from _ _ (leaf later (text ∷ texts) h) l some = absurd (omega arith)
planted_from _ _ (node kind under later pattern sides [] p h n k) l more = (filled pattern sides, node kind under later pattern sides [] p h n k)
planted_from _ _ (node kind under later pattern sides (text ∷ texts) p h n k) l more = absurd (omega arith)

-- the objects of a good word, of more than one letter, are planted
pub word_exists : (kinds : List Kind) → All IsKind kinds → 1 < length kinds → IsGood 1 (letters_in kinds) → (word : List ℕ) × IsWordOfKinds kinds word
word_exists kinds each some good =
    let subtrees : Trees = subtrees_of (trees_of (letters_in kinds)) in
    let one : word_of subtrees ≡ letters_in kinds = word_of-subtrees_of (letters_in kinds) (letters-word half_of kinds) good in
    let same : letters_in kinds ≡ words_of (tree subtrees none) = sym one ∙ ap (λ (w : List ℤ). letter_of (how_many subtrees) ∷ w) (sym (append-nil (words_of subtrees))) in
    let h = sides_exist kinds (tree subtrees none) each same in
    planted_from kinds h.texts h.are_sides h.counted some
