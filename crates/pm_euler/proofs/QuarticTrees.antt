-- Binary trees with bud patterns are plane trees whose nodes all have half degree 2.
use Rattle.std.proofs.Common.{◌≡◌, ℕ, suc, ◌+◌, ◌*◌, ◌/◌, ◌<◌, ◌≤◌, ◌==◌, Bool, true, false, cond, inl, inr, List, [], ◌∷◌, ◌++◌, length, map, All, count_by, get_or, take, take_all, drop, drop-cons, append_assoc, append-nil, refl, ap, ap₂, sym, ◌∙◌, subst, arith, ne_eqb, ℤ, pos, negsuc, ◌+ℤ◌}
use Rattle.std.specs.Prelude.{slice_index, slice_index_or}
use Rattle.std.specs.List.{range_with_len}
use Rattle.std.proofs.lemmas.Bool.{cases_eq}
use Rattle.std.proofs.lemmas.Int.{ints}
use Rattle.std.proofs.lemmas.List.{drop_all, length-map, take-map, take_more}
use Rattle.std.proofs.lemmas.List.Elements.{All-head, All-tail, All-nil, All-cons}
use Rattle.std.proofs.lemmas.List.FromFn.{length-range_with_len}
use Rattle.std.proofs.lemmas.List.Sums.{sum_by-cons}
use Rattle.pm_limits.specs.declared.TheConstants.{MAX_DEGREE, MAX_EDGES}
use Rattle.pm_remy.specs.Tree.{Tree, leaves, shape_of}
use Rattle.pm_remy.specs.Words.{IsShape, forks_in, leaves_in, tree_of}
use Rattle.pm_remy.proofs.Reading.{leaves-shape, forks-shape, shape-tree, whole-tree_of}
use Rattle.pm_words.specs.Word.{IsGood, sum_of}
use Rattle.pm_words.proofs.PlaneWords.{sum_of-cons}
use Rattle.pm_trees.specs.Binomial.{choose}
use Rattle.pm_trees.specs.Blossoming.{IsBlossoming}
use Rattle.pm_trees.specs.Blossoming.{leaves as tree_leaves}
use Rattle.pm_trees.specs.Degrees.{nodes_of}
use Rattle.pm_objects.proofs.Sorting.{count_yes, count_no}
use Rattle.pm_planting.specs.Kinds.{IsKind, IsWordOfKinds, halves_in, letters_in}
use Rattle.pm_planting.specs.declared.kind.Kind.{Kind}
use Rattle.pm_planting.specs.declared.kind.Kind.TheVariants.{Leaf, Node}
use Rattle.pm_planting.proofs.KindLaws.{kinds_blossoming, kinds_leaves, kinds_length, kinds_no_odd, kinds_nodes}
use Rattle.pm_planting.proofs.KindSides.{kinds_good}
use Rattle.pm_planting.proofs.PlaneTrees.{one_word, word_exists}
use Rattle.pm_planting.proofs.SideReading.{one_reading}
use Rattle.pm_planting.proofs.WordKinds.{kinds_each, kinds_exist}
use Rattle.pm_euler.specs.Planted.{IsPlanted, kinds_of_shape}

-- the letters of a shape
step : Bool → ℤ
step true = pos 1
step false = negsuc 0

steps : List Bool → List ℤ
steps nodes = map step nodes

steps-nil : steps [] ≡ []
unfolding steps
steps-nil = refl

steps_fork : (nodes : List Bool) → steps (true ∷ nodes) ≡ pos 1 ∷ steps nodes
unfolding step steps
steps_fork nodes = refl

steps_leaf : (nodes : List Bool) → steps (false ∷ nodes) ≡ negsuc 0 ∷ steps nodes
unfolding step steps
steps_leaf nodes = refl

steps-take : (k : ℕ) (nodes : List Bool) → take k (steps nodes) ≡ steps (take k nodes)
unfolding steps
steps-take k nodes = take-map step k nodes

length-steps : (nodes : List Bool) → length (steps nodes) ≡ length nodes
unfolding steps
length-steps nodes = length-map nodes step

-- a word of letters +1 and -1 is good where it is that of a binary tree
steps_sum : (nodes : List Bool) → sum_of (steps nodes) +ℤ pos (leaves_in nodes) ≡ pos (forks_in nodes)
steps_sum [] = let e = ap sum_of steps-nil in omega (arith, ints, e)
steps_sum (true ∷ nodes) = omega (arith, ints, ap sum_of (steps_fork nodes), sum_of-cons (pos 1) (steps nodes), steps_sum nodes)
steps_sum (false ∷ nodes) = omega (arith, ints, ap sum_of (steps_leaf nodes), sum_of-cons (negsuc 0) (steps nodes), steps_sum nodes)

shape_is_good : (nodes : List Bool) → IsShape nodes → IsGood 1 (steps nodes)
shape_is_good nodes shape = record {
  sum = omega (arith, ints, shape.sum, steps_sum nodes);
  above = λ k less.
      let prefixes = shape.prefixes k (omega (arith, less, length-steps nodes)) in
      omega (arith, ints, prefixes, ap sum_of (steps-take k nodes), steps_sum (take k nodes));
}

good_is_shape : (nodes : List Bool) → IsGood 1 (steps nodes) → IsShape nodes
good_is_shape nodes good = record {
  sum = omega (arith, ints, good.sum, steps_sum nodes);
  prefixes = λ k less.
      let above = good.above k (omega (arith, less, length-steps nodes)) in
      omega (arith, ints, above, ap sum_of (steps-take k nodes), steps_sum (take k nodes));
}

-- which of the objects with these kinds are nodes, and the ranks of these
pub nodes_in : List Kind → List Bool
nodes_in [] = []
nodes_in (Leaf ∷ kinds) = false ∷ nodes_in kinds
nodes_in (Node half rank ∷ kinds) = true ∷ nodes_in kinds

pub ranks_in : List Kind → List ℕ
ranks_in [] = []
ranks_in (Leaf ∷ kinds) = ranks_in kinds
ranks_in (Node half rank ∷ kinds) = rank ∷ ranks_in kinds

-- what the kinds of a shape with ranks tell
record AreShapeOf (nodes : List Bool) (ranks : List ℕ) (kinds : List Kind) : Type 0 where
  letters : letters_in kinds ≡ steps nodes
  long : length kinds ≡ forks_in nodes + leaves_in nodes
  few : All (λ half. half ≤ MAX_DEGREE / 2) (halves_in kinds)
  each : All (λ rank. rank < 3) ranks → All IsKind kinds
  counted : (half : ℕ) → count_by (λ y. y == half) (halves_in kinds) ≡ forks_in nodes * cond (2 == half) 1 0 + leaves_in nodes * cond (0 == half) 1 0
  shape : nodes_in kinds ≡ nodes
  ranks_are : ranks_in kinds ≡ ranks

shape_kinds : (nodes : List Bool) (ranks : List ℕ) → length ranks ≡ forks_in nodes → AreShapeOf nodes ranks (kinds_of_shape nodes ranks)
unfolding nodes_in ranks_in choose
shape_kinds [] [] many = record {
  letters = sym steps-nil;
  long = refl;
  few = All-nil (λ half. half ≤ MAX_DEGREE / 2);
  each = λ low. All-nil IsKind;
  counted = λ half. omega arith;
  shape = refl;
  ranks_are = refl;
}
shape_kinds [] (rank ∷ ranks) many = absurd (omega (arith, many))
shape_kinds (false ∷ nodes) ranks many =
    let h = shape_kinds nodes ranks many in
    let kinds : List Kind = kinds_of_shape nodes ranks in
    record {
      letters = ap (λ (xs : List ℤ). negsuc 0 ∷ xs) h.letters ∙ sym (steps_leaf nodes);
      long = (let l = h.long in omega (arith, l));
      few = All-cons (λ half. half ≤ MAX_DEGREE / 2) 0 (halves_in (kinds_of_shape nodes ranks)) (omega arith) h.few;
      each = λ low. All-cons IsKind Leaf (kinds_of_shape nodes ranks) tt (h.each low);
      counted = λ half. let c = h.counted half in omega (arith, c, sum_by-cons (λ (y : ℕ). cond {A = ℕ} (y == half) 1 0) 0 (halves_in (kinds_of_shape nodes ranks)));
      shape = ap (λ (bs : List Bool). false ∷ bs) h.shape;
      ranks_are = h.ranks_are;
    }
shape_kinds (true ∷ nodes) [] many = absurd (let m : 0 ≡ suc (forks_in nodes) = many in omega (arith, m))
shape_kinds (true ∷ nodes) (rank ∷ ranks) many =
    let m : suc (length ranks) ≡ suc (forks_in nodes) = many in
    let h = shape_kinds nodes ranks (omega (arith, m)) in
    record {
      letters = ap (λ (xs : List ℤ). pos 1 ∷ xs) h.letters ∙ sym (steps_fork nodes);
      long = (let l = h.long in omega (arith, l));
      few = All-cons (λ half. half ≤ MAX_DEGREE / 2) 2 (halves_in (kinds_of_shape nodes ranks)) (omega arith) h.few;
      each = λ low.
          All-cons IsKind (Node 2 rank) (kinds_of_shape nodes ranks) (record { some = omega arith; few = omega arith }, All-head (λ rank. rank < 3) rank ranks low)
          (h.each (All-tail (λ rank. rank < 3) rank ranks low));
      counted = λ half. let c = h.counted half in omega (arith, c, sum_by-cons (λ (y : ℕ). cond {A = ℕ} (y == half) 1 0) 2 (halves_in (kinds_of_shape nodes ranks)));
      shape = ap (λ (bs : List Bool). true ∷ bs) h.shape;
      ranks_are = ap (λ (rs : List ℕ). rank ∷ rs) h.ranks_are;
    }

-- a tree with a rank for each fork
module _ (t : Tree) (ranks : List ℕ) (forks : leaves t ≡ suc (length ranks)) where
  of_shape : AreShapeOf (shape_of t) ranks (kinds_of_shape (shape_of t) ranks)
  of_shape = shape_kinds (shape_of t) ranks (let f = forks-shape t in omega (arith, f, forks))

  pub tree_good : IsGood 1 (letters_in (kinds_of_shape (shape_of t) ranks))
  tree_good = subst (IsGood 1) (sym of_shape.letters) (shape_is_good (shape_of t) (shape-tree t))

  pub tree_objects : length (kinds_of_shape (shape_of t) ranks) ≡ suc (2 * length ranks)
  tree_objects = let l = of_shape.long in omega (arith, l, forks-shape t, leaves-shape t, forks)

  pub tree_kinds : All (λ rank. rank < 3) ranks → All IsKind (kinds_of_shape (shape_of t) ranks)
  tree_kinds low = of_shape.each low

pub planted_exists : (t : Tree) (ranks : List ℕ) → leaves t ≡ suc (length ranks) → 0 < length ranks → All (λ rank. rank < 3) ranks → (word : List ℕ) × IsPlanted t ranks word
planted_exists t ranks forks some low =
    let found = word_exists (kinds_of_shape (shape_of t) ranks) (tree_kinds t ranks forks low) (omega (arith, some, tree_objects t ranks forks)) (tree_good t ranks forks) in
    (found.0, record { forks = forks; of_kinds = found.1 })

pub planted_unique : (t : Tree) (ranks one other : List ℕ) → IsPlanted t ranks one → IsPlanted t ranks other → one ≡ other
planted_unique t ranks one other h k = one_word (kinds_of_shape (shape_of t) ranks) one other h.of_kinds k.of_kinds

module _ (t : Tree) (ranks word : List ℕ) (h : IsPlanted t ranks word) where
  pub planted_length : suc (length word) ≡ 4 * length ranks
  planted_length = let l = kinds_length (kinds_of_shape (shape_of t) ranks) word h.of_kinds in omega (arith, l, tree_objects t ranks h.forks)

  pub planted_leaves : tree_leaves word ≡ length ranks + 2
  planted_leaves =
      let l = kinds_leaves (kinds_of_shape (shape_of t) ranks) word h.of_kinds in
      let c = (of_shape t ranks h.forks).counted 0 in
      omega (arith, l, c, leaves-shape t, h.forks)

  pub planted_fours : nodes_of word 4 ≡ length ranks
  planted_fours =
      let nodes = kinds_nodes (kinds_of_shape (shape_of t) ranks) word h.of_kinds 2 (omega arith) in
      let c = (of_shape t ranks h.forks).counted 2 in
      omega (arith, nodes, c, forks-shape t, h.forks)

  pub planted_no_other : (d : ℕ) → (d ≡ 4 → ⊥) → nodes_of word d ≡ 0
  planted_no_other d other = elim (cases_eq (2 * (d / 2)) d) [
    | inl same ↦ elim (cases_eq d 0) [
      | inl zero_is ↦ kinds_no_odd (kinds_of_shape (shape_of t) ranks) word h.of_kinds d (λ half some e. omega (arith, e, zero_is, some))
      | inr some ↦
          let nodes = kinds_nodes (kinds_of_shape (shape_of t) ranks) word h.of_kinds (d / 2) (omega (arith, same, some)) in
          let c = (of_shape t ranks h.forks).counted (d / 2) in
          let no_fork : cond {A = ℕ} (2 == d / 2) 1 0 ≡ 0 = rw (ne_eqb 2 (d / 2) (λ e. other (omega (arith, e, same)))) refl in
          let no_leaf : cond {A = ℕ} (0 == d / 2) 1 0 ≡ 0 = rw (ne_eqb 0 (d / 2) (λ e. some (omega (arith, e, same)))) refl in
          let p = ap (λ (k : ℕ). forks_in (shape_of t) * k) no_fork in
          let q = ap (λ (k : ℕ). leaves_in (shape_of t) * k) no_leaf in
          ap (nodes_of word) (sym same) ∙ nodes ∙ c ∙ omega (arith, p, q)
    ]
    | inr apart ↦ kinds_no_odd (kinds_of_shape (shape_of t) ranks) word h.of_kinds d (λ half some e. apart (omega (arith, e)))
  ]

  pub planted_blossoming : 2 * length ranks ≤ MAX_EDGES → IsBlossoming word
  planted_blossoming few = kinds_blossoming (kinds_of_shape (shape_of t) ranks) word h.of_kinds (of_shape t ranks h.forks).few (omega (arith, few, tree_objects t ranks h.forks))

  -- only the shape of the tree tells
  pub planted_relabelled : (u : Tree) → shape_of t ≡ shape_of u → IsPlanted u ranks word
  planted_relabelled u same = record {
    forks = sym (leaves-shape u) ∙ ap leaves_in (sym same) ∙ leaves-shape t ∙ h.forks;
    of_kinds = subst (λ (nodes : List Bool). IsWordOfKinds (kinds_of_shape nodes ranks) word) same h.of_kinds;
  }

pub record IsSameReading (t : Tree) (ranks : List ℕ) (u : Tree) (others : List ℕ) : Type 0 where
  pub shapes : shape_of t ≡ shape_of u
  pub ranks_are : ranks ≡ others

-- a word is planted of one shape and one list of ranks
pub planted_reads_once : (t : Tree) (ranks : List ℕ) (u : Tree) (others word : List ℕ) → IsPlanted t ranks word → IsPlanted u others word → IsSameReading t ranks u others
planted_reads_once t ranks u others word h k =
    let same = one_reading (kinds_of_shape (shape_of t) ranks) (kinds_of_shape (shape_of u) others) word h.of_kinds k.of_kinds in
    let a = of_shape t ranks h.forks in
    let b = of_shape u others k.forks in
    record { shapes = sym a.shape ∙ ap nodes_in same ∙ b.shape; ranks_are = sym a.ranks_are ∙ ap ranks_in same ∙ b.ranks_are }

-- kinds of which none is of a node of another half degree are those of their nodes and ranks
record IsReadBack (kinds : List Kind) : Type 0 where
  many : length (ranks_in kinds) ≡ forks_in (nodes_in kinds)
  low : All (λ rank. rank < 3) (ranks_in kinds)
  again : kinds_of_shape (nodes_in kinds) (ranks_in kinds) ≡ kinds

back_node : (rank : ℕ) (kinds : List Kind) → IsKind (Node 2 rank) → IsReadBack kinds → IsReadBack (Node 2 rank ∷ kinds)
unfolding nodes_in ranks_in choose
back_node rank kinds is h = record {
  many = ap suc h.many;
  low = All-cons (λ (rank : ℕ). rank < 3) rank (ranks_in kinds) is.1 h.low;
  again = ap (λ (ks : List Kind). Node 2 rank ∷ ks) h.again;
}

read_back : (kinds : List Kind) → All IsKind kinds → ((half : ℕ) → 0 < half → (half ≡ 2 → ⊥) → count_by (λ y. y == half) (halves_in kinds) ≡ 0) → IsReadBack kinds
unfolding nodes_in ranks_in
read_back [] each none = record { many = refl; low = All-nil (λ (rank : ℕ). rank < 3); again = refl }
read_back (Leaf ∷ kinds) each none =
    let h = read_back kinds (All-tail IsKind Leaf kinds each) (λ half some other. sym (count_no half 0 (halves_in kinds) (λ e. omega (arith, e, some))) ∙ none half some other) in
    record { many = h.many; low = h.low; again = ap (λ (ks : List Kind). Leaf ∷ ks) h.again }
read_back (Node half rank ∷ kinds) each none = elim (cases_eq half 2) [
  | inl two ↦
      let h = read_back kinds (All-tail IsKind (Node half rank) kinds each) (λ other some apart. sym (count_no other half (halves_in kinds) (λ e. apart (omega (arith, e, two)))) ∙ none other some apart) in
      subst (λ (n : ℕ). IsReadBack (Node n rank ∷ kinds)) (sym two) (back_node rank kinds (subst (λ (n : ℕ). IsKind (Node n rank)) two (All-head IsKind (Node half rank) kinds each)) h)
  | inr apart ↦ absurd (
      let c = count_yes half half (halves_in kinds) refl in
      let z = none half (All-head IsKind (Node half rank) kinds each).0.some apart in
      omega (arith, c, z)
      )
]

-- so are those of a word without a node of another degree
word_read_back : (word : List ℕ) (kinds : List Kind) → IsBlossoming word → IsWordOfKinds kinds word → ((d : ℕ) → (d ≡ 4 → ⊥) → nodes_of word d ≡ 0) → IsReadBack kinds
word_read_back word kinds tree planted others =
    read_back kinds (kinds_each kinds word tree planted) (λ half some other. sym (kinds_nodes kinds word planted half some) ∙ others (2 * half) (λ e. other (omega (arith, e))))

-- the shape and the ranks of which a word is planted
pub record IsPlantedWord (nodes : List Bool) (ranks word : List ℕ) : Type 0 where
  pub is_shape : IsShape nodes
  pub tree : Tree
  pub shape_is : shape_of tree ≡ nodes
  pub is_planted : IsPlanted tree ranks word

pub planted_from_shape : (nodes : List Bool) (ranks word : List ℕ) → length ranks ≡ forks_in nodes → IsWordOfKinds (kinds_of_shape nodes ranks) word → IsPlantedWord nodes ranks word
planted_from_shape nodes ranks word many planted =
    let is = good_is_shape nodes (subst (IsGood 1) (shape_kinds nodes ranks many).letters (kinds_good (kinds_of_shape nodes ranks) word planted)) in
    let whole = whole-tree_of nodes (range_with_len 0 (leaves_in nodes)) is (length-range_with_len 0 (leaves_in nodes)) in
    let total = is.sum in
    record {
      is_shape = is;
      tree = tree_of nodes (range_with_len 0 (leaves_in nodes));
      shape_is = whole.shape;
      is_planted = record {
        forks = (let ends = leaves-shape (tree_of nodes (range_with_len 0 (leaves_in nodes))) in let same = ap leaves_in whole.shape in omega (arith, ends, same, total, many));
        of_kinds = subst (λ (bs : List Bool). IsWordOfKinds (kinds_of_shape bs ranks) word) (sym whole.shape) planted;
      };
    }

pub record HasShape (word : List ℕ) : Type 0 where
  pub nodes : List Bool
  pub ranks : List ℕ
  pub is : IsPlantedWord nodes ranks word

pub planted_from_word : (word : List ℕ) → IsBlossoming word → ((d : ℕ) → (d ≡ 4 → ⊥) → nodes_of word d ≡ 0) → HasShape word
planted_from_word word tree others =
    let found = kinds_exist word tree in
    let back = word_read_back word found.0 tree found.1 others in
    record {
      nodes = nodes_in found.0;
      ranks = ranks_in found.0;
      is = planted_from_shape (nodes_in found.0) (ranks_in found.0) word back.many (subst (λ (ks : List Kind). IsWordOfKinds ks word) (sym back.again) found.1);
    }

pub planted_ranks : (t : Tree) (ranks word : List ℕ) → IsBlossoming word → IsPlanted t ranks word → All (λ rank. rank < 3) ranks
planted_ranks t ranks word tree h =
    let back = word_read_back word (kinds_of_shape (shape_of t) ranks) tree h.of_kinds (planted_no_other t ranks word h) in
    subst (λ (rs : List ℕ). All (λ rank. rank < 3) rs) (of_shape t ranks h.forks).ranks_are back.low

-- the nodes and the ranks of the objects before a place are read
pub record AreRead (kinds : List Kind) (nodes : List Bool) (ranks : List ℕ) (place : ℕ) : Type 0 where
  pub nodes_are : nodes ≡ nodes_in (take place kinds)
  pub ranks_are : ranks ≡ ranks_in (take place kinds)

nodes-push : (kinds : List Kind) (kind : Kind) → nodes_in (kinds ++ kind ∷ []) ≡ nodes_in kinds ++ nodes_in (kind ∷ [])
unfolding nodes_in
nodes-push [] kind = refl
nodes-push (Leaf ∷ kinds) kind = ap (λ (bs : List Bool). false ∷ bs) (nodes-push kinds kind)
nodes-push (Node half rank ∷ kinds) kind = ap (λ (bs : List Bool). true ∷ bs) (nodes-push kinds kind)

ranks-push : (kinds : List Kind) (kind : Kind) → ranks_in (kinds ++ kind ∷ []) ≡ ranks_in kinds ++ ranks_in (kind ∷ [])
unfolding ranks_in
ranks-push [] kind = refl
ranks-push (Leaf ∷ kinds) kind = ranks-push kinds kind
ranks-push (Node half rank ∷ kinds) kind = ap (λ (rs : List ℕ). rank ∷ rs) (ranks-push kinds kind)

pub read_none : (kinds : List Kind) (nodes : List Bool) (ranks : List ℕ) → nodes ≡ [] → ranks ≡ [] → AreRead kinds nodes ranks 0
unfolding nodes_in ranks_in
read_none kinds nodes ranks n r = record { nodes_are = n; ranks_are = r }

-- one object more
module _ (kinds : List Kind) (nodes more : List Bool) (ranks all : List ℕ) (place : ℕ) (a : AreRead kinds nodes ranks place) (less : place < length kinds) where
  pub read_leaf : slice_index_or kinds place Leaf ≡ Leaf → more ≡ nodes ++ false ∷ [] → all ≡ ranks → AreRead kinds more all (place + 1)
  unfolding nodes_in ranks_in
  read_leaf here n r =
      let prefix : take (place + 1) kinds ≡ take place kinds ++ Leaf ∷ [] = take_more kinds place Leaf less ∙ ap (λ (k : Kind). take place kinds ++ k ∷ []) here in
      record {
        nodes_are = n ∙ ap (λ (bs : List Bool). bs ++ false ∷ []) a.nodes_are ∙ sym (ap nodes_in prefix ∙ nodes-push (take place kinds) Leaf);
        ranks_are = r ∙ a.ranks_are ∙ sym (append-nil (ranks_in (take place kinds))) ∙ sym (ap ranks_in prefix ∙ ranks-push (take place kinds) Leaf);
      }

  pub read_node : (half rank : ℕ) → slice_index_or kinds place Leaf ≡ Node half rank → more ≡ nodes ++ true ∷ [] → all ≡ ranks ++ rank ∷ [] → AreRead kinds more all (place + 1)
  unfolding nodes_in ranks_in
  read_node half rank here n r =
      let prefix : take (place + 1) kinds ≡ take place kinds ++ Node half rank ∷ [] = take_more kinds place Leaf less ∙ ap (λ (k : Kind). take place kinds ++ k ∷ []) here in
      record {
        nodes_are = n ∙ ap (λ (bs : List Bool). bs ++ true ∷ []) a.nodes_are ∙ sym (ap nodes_in prefix ∙ nodes-push (take place kinds) (Node half rank));
        ranks_are = r ∙ ap (λ (rs : List ℕ). rs ++ rank ∷ []) a.ranks_are ∙ sym (ap ranks_in prefix ∙ ranks-push (take place kinds) (Node half rank));
      }

-- all of them are read
pub record IsReadWhole (word : List ℕ) (nodes : List Bool) (ranks : List ℕ) : Type 0 where
  pub many : length ranks ≡ forks_in nodes
  pub planted : IsWordOfKinds (kinds_of_shape nodes ranks) word

pub read_whole : (word : List ℕ) (kinds : List Kind) (nodes : List Bool) (ranks : List ℕ) (place : ℕ) → IsBlossoming word → ((d : ℕ) → (d ≡ 4 → ⊥) → nodes_of word d ≡ 0) → IsWordOfKinds kinds word → AreRead kinds nodes ranks place → length kinds ≤ place
    → IsReadWhole word nodes ranks
read_whole word kinds nodes ranks place tree others planted a past =
    let back = word_read_back word kinds tree planted others in
    let all = take_all place kinds past in
    let n : nodes ≡ nodes_in kinds = a.nodes_are ∙ ap nodes_in all in
    let r : ranks ≡ ranks_in kinds = a.ranks_are ∙ ap ranks_in all in
    record {
      many = ap length r ∙ back.many ∙ ap forks_in (sym n);
      planted = subst (λ (ks : List Kind). IsWordOfKinds ks word) (sym (ap₂ kinds_of_shape n r ∙ back.again)) planted;
    }

-- the kinds of the nodes before a place are written
pub record AreWritten (nodes : List Bool) (ranks : List ℕ) (kinds : List Kind) (next place : ℕ) : Type 0 where
  pub rest : kinds ++ kinds_of_shape (drop place nodes) (drop next ranks) ≡ kinds_of_shape nodes ranks
  pub forks : next + forks_in (drop place nodes) ≡ length ranks

pub written_none : (nodes : List Bool) (ranks : List ℕ) (kinds : List Kind) → length ranks ≡ forks_in nodes → kinds ≡ [] → AreWritten nodes ranks kinds 0 0
written_none nodes ranks kinds many e = record { rest = ap (λ (ks : List Kind). ks ++ kinds_of_shape nodes ranks) e; forks = omega (arith, many) }

-- one node more
module _ (nodes : List Bool) (ranks : List ℕ) (kinds more : List Kind) (next place : ℕ) (w : AreWritten nodes ranks kinds next place) (less : place < length nodes) where
  pub fork_low : get_or nodes place false ≡ true → next < length ranks
  fork_low here =
      let first : drop place nodes ≡ true ∷ drop (suc place) nodes = drop-cons nodes place false less ∙ ap (λ (b : Bool). b ∷ drop (suc place) nodes) here in
      let f = w.forks in
      let g = ap forks_in first in
      omega (arith, f, g)

  pub written_fork : get_or nodes place false ≡ true → more ≡ kinds ++ Node 2 (slice_index ranks next) ∷ [] → AreWritten nodes ranks more (next + 1) (place + 1)
  written_fork here e =
      let first : drop place nodes ≡ true ∷ drop (suc place) nodes = drop-cons nodes place false less ∙ ap (λ (b : Bool). b ∷ drop (suc place) nodes) here in
      let rank = drop-cons ranks next 0 (fork_low here) in
      let after : suc place ≡ place + 1 = omega arith in
      let later : suc next ≡ next + 1 = omega arith in
      subst (λ (n : ℕ). AreWritten nodes ranks more n (place + 1)) later (subst (AreWritten nodes ranks more (suc next)) after (record {
        rest = ap (λ (ks : List Kind). ks ++ kinds_of_shape (drop (suc place) nodes) (drop (suc next) ranks)) e
            ∙ append_assoc kinds (Node 2 (slice_index ranks next) ∷ []) (kinds_of_shape (drop (suc place) nodes) (drop (suc next) ranks))
            ∙ ap₂ (λ (bs : List Bool) (rs : List ℕ). kinds ++ kinds_of_shape bs rs) (sym first) (sym rank) ∙ w.rest;
        forks = (let f = w.forks in let g = ap forks_in first in omega (arith, f, g));
      }))

  pub written_leaf : get_or nodes place false ≡ false → more ≡ kinds ++ Leaf ∷ [] → AreWritten nodes ranks more next (place + 1)
  written_leaf here e =
      let first : drop place nodes ≡ false ∷ drop (suc place) nodes = drop-cons nodes place false less ∙ ap (λ (b : Bool). b ∷ drop (suc place) nodes) here in
      let after : suc place ≡ place + 1 = omega arith in
      subst (AreWritten nodes ranks more next) after (record {
        rest = ap (λ (ks : List Kind). ks ++ kinds_of_shape (drop (suc place) nodes) (drop next ranks)) e
            ∙ append_assoc kinds (Leaf ∷ []) (kinds_of_shape (drop (suc place) nodes) (drop next ranks))
            ∙ ap (λ (bs : List Bool). kinds ++ kinds_of_shape bs (drop next ranks)) (sym first) ∙ w.rest;
        forks = (let f = w.forks in let g = ap forks_in first in omega (arith, f, g));
      })

pub written_all : (nodes : List Bool) (ranks : List ℕ) (kinds : List Kind) (next place : ℕ) → AreWritten nodes ranks kinds next place → length nodes ≤ place → kinds ≡ kinds_of_shape nodes ranks
written_all nodes ranks kinds next place w past =
    sym (append-nil kinds) ∙ ap (λ (bs : List Bool). kinds ++ kinds_of_shape bs (drop next ranks)) (sym (drop_all place nodes past)) ∙ w.rest
