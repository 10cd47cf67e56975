-- Reading a tree from its words.
use Rattle.std.proofs.Common.{◌≡◌, ℕ, zero, suc, ◌+◌, ◌-◌, ◌<◌, ◌≤◌, Bool, true, false, List, [], ◌∷◌, ◌++◌, length, take, drop, refl, sym, subst, ap, ap₂, ◌∙◌, inl, inr, arith, append_assoc, append-nil, take-append-drop, length-append}
use Rattle.std.proofs.lemmas.Bool.{cases_lt}
use Rattle.std.proofs.lemmas.List.{take-append-le}
use Rattle.pm_limits.specs.declared.TheConstants.{MAX_EDGES}
use Rattle.pm_perm.specs.Permutation.{IsPermutationList}
use Rattle.pm_remy.specs.Tree.{Tree, leaf, fork, labels_of, shape_of, leaves}
use Rattle.pm_remy.specs.Words.{forks_in, leaves_in, IsShape, joined, forest, first_of, tree_of, tree_of-words, IsLabelTree, IsWritten}

-- the words of some trees, one after another
abbrev pub shapes_of : List Tree → List Bool
shapes_of [] = []
shapes_of (t ∷ ts) = shape_of t ++ shapes_of ts

abbrev pub labels_of_all : List Tree → List ℕ
labels_of_all [] = []
labels_of_all (t ∷ ts) = labels_of t ++ labels_of_all ts

-- each end of the word has more leaves than forks
pub record IsFalling (word : List Bool) : Type 0 where
  pub ends : (j : ℕ) → j < length word → forks_in (drop j word) < leaves_in (drop j word)

pub falling-rest : (x : Bool) (word : List Bool) → IsFalling (x ∷ word) → IsFalling word
falling-rest x word h = record { ends = λ j q. h.ends (suc j) (omega arith) }

forks-append : (v w : List Bool) → forks_in (v ++ w) ≡ forks_in v + forks_in w
forks-append [] w = omega arith
forks-append (true ∷ v) w = omega (arith, forks-append v w)
forks-append (false ∷ v) w = forks-append v w

leaves-append : (v w : List Bool) → leaves_in (v ++ w) ≡ leaves_in v + leaves_in w
leaves-append [] w = omega arith
leaves-append (true ∷ v) w = leaves-append v w
leaves-append (false ∷ v) w = omega (arith, leaves-append v w)

pub falling-shape : (word : List Bool) → IsShape word → IsFalling word
falling-shape word h =
    record {
      ends = λ j q.
          let forks = forks-append (take j word) (drop j word) in
          let forks_whole = ap forks_in (take-append-drop j word) in
          let leaves = leaves-append (take j word) (drop j word) in
          let leaves_whole = ap leaves_in (take-append-drop j word) in
          omega (arith, h.sum, h.prefixes j q);
    }

-- the trees are those that the words tell
pub record Reads (word : List Bool) (labels : List ℕ) (ts : List Tree) : Type 0 where
  pub shapes : shapes_of ts ≡ word
  pub labels_stand : labels_of_all ts ≡ labels
  pub count : length ts + forks_in word ≡ leaves_in word

reads-joined : (word : List Bool) (labels : List ℕ) (ts : List Tree) → Reads word labels ts → 1 < length ts → Reads (true ∷ word) labels (joined ts)
reads-joined word labels [] h q = absurd (omega arith)
reads-joined word labels (l ∷ []) h q = absurd (omega arith)
reads-joined word labels (l ∷ (r ∷ ts)) h q =
    record {
      shapes = ap (λ (w : List Bool). true ∷ w) (append_assoc (shape_of l) (shape_of r) (shapes_of ts) ∙ h.shapes);
      labels_stand = append_assoc (labels_of l) (labels_of r) (labels_of_all ts) ∙ h.labels_stand;
      count = omega (arith, h.count);
    }

pub reads-forest : (word : List Bool) (labels : List ℕ) → IsFalling word → length labels ≡ leaves_in word → Reads word labels (forest word labels)
reads-forest [] [] h e = record { shapes = refl; labels_stand = refl; count = refl }
reads-forest [] (m ∷ labels) h e = absurd (omega arith)
reads-forest (true ∷ word) labels h e =
    let rest = reads-forest word labels (falling-rest true word h) e in
    reads-joined word labels (forest word labels) rest (omega (arith, rest.count, h.ends 0 (omega arith)))
reads-forest (false ∷ word) [] h e = absurd (omega arith)
reads-forest (false ∷ word) (m ∷ labels) h e =
    let rest = reads-forest word labels (falling-rest false word h) (omega arith) in
    record {
      shapes = ap (λ (w : List Bool). false ∷ w) rest.shapes;
      labels_stand = ap (λ (ms : List ℕ). m ∷ ms) rest.labels_stand;
      count = omega (arith, rest.count);
    }

-- the one tree of a whole word
pub record IsWhole (word : List Bool) (labels : List ℕ) (t : Tree) : Type 0 where
  pub shape : shape_of t ≡ word
  pub labels_stand : labels_of t ≡ labels

whole-first : (word : List Bool) (labels : List ℕ) (ts : List Tree) → Reads word labels ts → length ts ≡ 1 → IsWhole word labels (first_of ts)
whole-first word labels [] h e = absurd (omega arith)
whole-first word labels (t ∷ []) h e =
    record { shape = sym (append-nil (shape_of t)) ∙ h.shapes; labels_stand = sym (append-nil (labels_of t)) ∙ h.labels_stand }
whole-first word labels (t ∷ (u ∷ ts)) h e = absurd (omega arith)

pub whole-tree_of : (word : List Bool) (labels : List ℕ) → IsShape word → length labels ≡ leaves_in word → IsWhole word labels (tree_of word labels)
unfolding tree_of
whole-tree_of word labels h e =
    let all = reads-forest word labels (falling-shape word h) e in
    whole-first word labels (forest word labels) all (omega (arith, all.count, h.sum))

-- a tree is told by its shape and its labels
pub same_tree : (t u : Tree) → shape_of t ≡ shape_of u → labels_of t ≡ labels_of u → t ≡ u
same_tree t u e f = sym (tree_of-words t) ∙ (ap₂ tree_of e f ∙ tree_of-words u)

-- a labelled tree's words are written
pub written-tree : (t : Tree) → IsLabelTree t → IsWritten (shape_of t) (labels_of t)
written-tree t h =
    record {
      shape = ap shape_of (tree_of-words t);
      labels_stand = ap labels_of (tree_of-words t);
      labelled = subst (λ (u : Tree). IsLabelTree u) (sym (tree_of-words t)) h;
    }

-- the word of a tree is in order, with as many leaves as the tree
pub leaves-shape : (t : Tree) → leaves_in (shape_of t) ≡ leaves t
leaves-shape (leaf m) = refl
leaves-shape (fork l r) =
    omega (arith, leaves-append (shape_of l) (shape_of r), leaves-shape l, leaves-shape r, length-append (labels_of l) (labels_of r))

pub forks-shape : (t : Tree) → suc (forks_in (shape_of t)) ≡ leaves t
forks-shape (leaf m) = refl
forks-shape (fork l r) =
    omega (arith, forks-append (shape_of l) (shape_of r), forks-shape l, forks-shape r, length-append (labels_of l) (labels_of r))

take-past : (v w : List Bool) (k : ℕ) → length v ≤ k → take k (v ++ w) ≡ v ++ take (k - length v) w
take-past [] w k q = ap (λ (n : ℕ). take n w) (omega arith)
take-past (x ∷ v) w zero q = absurd (omega arith)
take-past (x ∷ v) w (suc k) q =
    ap (λ (u : List Bool). x ∷ u) (take-past v w k (omega arith)) ∙ ap (λ (n : ℕ). x ∷ (v ++ take n w)) (omega arith)

prefixes-shape : (t : Tree) (k : ℕ) → k < length (shape_of t) → leaves_in (take k (shape_of t)) ≤ forks_in (take k (shape_of t))
prefixes-shape (leaf m) zero q = omega arith
prefixes-shape (leaf m) (suc k) q = absurd (omega arith)
prefixes-shape (fork l r) zero q = omega arith
prefixes-shape (fork l r) (suc k) q =
    elim (cases_lt k (length (shape_of l))) [
      | inl i ↦ let same = take-append-le k (shape_of l) (shape_of r) (omega arith) in
          omega (arith, ap leaves_in same, ap forks_in same, prefixes-shape l k i)
      | inr i ↦ let n = k - length (shape_of l) in
          let same = take-past (shape_of l) (shape_of r) k i in
          omega (
            arith,
            ap leaves_in same,
            ap forks_in same,
            leaves-append (shape_of l) (take n (shape_of r)),
            forks-append (shape_of l) (take n (shape_of r)),
            leaves-shape l,
            forks-shape l,
            prefixes-shape r n (omega (arith, length-append (shape_of l) (shape_of r))),
          )
    ]

pub shape-tree : (t : Tree) → IsShape (shape_of t)
shape-tree t = record { sum = omega (arith, leaves-shape t, forks-shape t); prefixes = prefixes-shape t }

-- the words that a caller gives are those of a tree
pub written-words : (word : List Bool) (labels : List ℕ) → IsShape word → forks_in word ≤ MAX_EDGES → IsPermutationList labels → length labels ≡ leaves_in word → IsWritten word labels
written-words word labels h few once e =
    let whole = whole-tree_of word labels h e in
    record {
      shape = whole.shape;
      labels_stand = whole.labels_stand;
      labelled = record {
        once = subst (λ (ms : List ℕ). IsPermutationList ms) (sym whole.labels_stand) once;
        few = omega (arith, ap length whole.labels_stand, h.sum);
      };
    }
