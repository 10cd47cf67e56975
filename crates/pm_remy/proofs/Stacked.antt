-- The reading of a tree's words from the right, as the code keeps it: the subtrees by their root nodes' names and least labels.
use Rattle.std.proofs.Common.{◌≡◌, ℕ, zero, suc, ◌+◌, ◌-◌, ◌*◌, ◌<◌, ◌≤◌, min, max, Bool, true, false, List, [], ◌∷◌, ◌++◌, length, get_or, take, drop, slice_index, slice_set, refl, sym, subst, ap, ap₂, ◌∙◌, inl, inr, arith, length-drop, length-set, get_or-set_same, get_or-set_other, take-append-drop, drop-cons, drop-drop}
use Rattle.std.proofs.lemmas.Bool.{cases_lt, cases_eq}
use Rattle.std.proofs.lemmas.List.{drop_all, length_push, same_from_push}
use Rattle.pm_limits.specs.declared.TheConstants.{MAX_EDGES}
use Rattle.pm_perm.specs.Permutation.{IsPermutationList}
use Rattle.pm_remy.specs.Tree.{Tree, leaf, fork, least, name}
use Rattle.pm_remy.specs.Words.{forest, joined, first_of, forks_in, leaves_in, IsShape, IsWritten, tree_of}
use Rattle.pm_remy.specs.Growth.{IsChoices}
use Rattle.pm_remy.specs.steps.Noted.{fork_choice, AreNoted, IsNotedTree}
use Rattle.pm_remy.specs.declared.ungrowing.Subtree.{Subtree}
use Rattle.pm_remy.proofs.Counts.{IsApart, IsBelow, name-below, least-below}
use Rattle.pm_remy.proofs.Linking.{sides-apart}
use Rattle.pm_remy.proofs.Once.{times, times-append, times-once, times-none}
use Rattle.pm_remy.proofs.Reading.{Reads, IsFalling, falling-shape, reads-forest, shape-tree, leaves-shape}
use Rattle.pm_remy.proofs.Descent.{AreAllNoted, noted-joined, choice-low}
use Rattle.pm_remy.proofs.Gathering.{label_times_all, times-labels_all, AreApart}

-- a tree as the code keeps it
abbrev pub subtree_of : Tree → Subtree
subtree_of t = record { root = name t; least = least t }

-- the trees, the first one last
abbrev pub subtrees_of : List Tree → List Subtree
subtrees_of [] = []
subtrees_of (t ∷ ts) = subtrees_of ts ++ subtree_of t ∷ []

pub length-subtrees : (ts : List Tree) → length (subtrees_of ts) ≡ length ts
length-subtrees [] = refl
length-subtrees (t ∷ ts) = omega (arith, length_push (subtrees_of ts) (subtree_of t), length-subtrees ts)

-- two words that are to be read
pub record IsReadable (nodes : List Bool) (labels : List ℕ) : Type 0 where
  pub falling : IsFalling nodes
  pub sum : leaves_in nodes ≡ suc (forks_in nodes)
  pub as_many : length labels ≡ leaves_in nodes
  pub once : IsPermutationList labels
  pub few : length labels ≤ suc MAX_EDGES

pub readable-written : (nodes : List Bool) (labels : List ℕ) → IsWritten nodes labels → IsReadable nodes labels
readable-written nodes labels h =
    let t = tree_of nodes labels in
    let shape = subst (λ (w : List Bool). IsShape w) h.shape (shape-tree t) in
    record {
      falling = falling-shape nodes shape;
      sum = shape.sum;
      as_many = ap length (sym h.labels_stand) ∙ (sym (leaves-shape t) ∙ ap leaves_in h.shape);
      once = subst (λ (ms : List ℕ). IsPermutationList ms) h.labels_stand h.labelled.once;
      few = omega (arith, ap length h.labels_stand, h.labelled.few);
    }

-- the trees that are read when so many nodes and labels are left
abbrev pub read_trees : List Bool → List ℕ → ℕ → ℕ → List Tree
read_trees nodes labels i j = forest (drop i nodes) (drop j labels)

pub record IsGathered (C : List ℕ) (nodes : List Bool) (labels : List ℕ) (i j : ℕ) (stack : List Subtree) : Type 0 where
  pub nodes_left : i ≤ length nodes
  pub labels_left : j ≤ length labels
  pub as_many : length labels ≡ j + leaves_in (drop i nodes)
  pub kept : stack ≡ subtrees_of (read_trees nodes labels i j)
  pub noted : AreAllNoted (slice_index C) (read_trees nodes labels i j)

pub gathered-start : (C : List ℕ) (nodes : List Bool) (labels : List ℕ) → IsGathered C nodes labels (length nodes) (length labels) []
gathered-start C nodes labels =
    let none : read_trees nodes labels (length nodes) (length labels) ≡ [] = ap (λ (w : List Bool). forest w (drop (length labels) labels)) (drop_all (length nodes) nodes (omega arith)) in
    record {
      nodes_left = omega arith;
      labels_left = omega arith;
      as_many = omega (arith, ap leaves_in (drop_all (length nodes) nodes (omega arith)));
      kept = ap subtrees_of (sym none);
      noted = subst (λ (ts : List Tree). AreAllNoted (slice_index C) ts) (sym none) tt;
    }

falling-drop : (nodes : List Bool) (i : ℕ) → IsFalling nodes → IsFalling (drop i nodes)
falling-drop nodes i h =
    record {
      ends = λ j q. let same = drop-drop j i nodes in
          let low : i + j < length nodes = omega (arith, length-drop i nodes) in
          omega (arith, h.ends (i + j) low, ap forks_in same, ap leaves_in same);
    }

gathered-reads : (C : List ℕ) (nodes : List Bool) (labels : List ℕ) (i j : ℕ) (stack : List Subtree) → IsReadable nodes labels → IsGathered C nodes labels i j stack
    → Reads (drop i nodes) (drop j labels) (read_trees nodes labels i j)
gathered-reads C nodes labels i j stack r h =
    reads-forest (drop i nodes) (drop j labels) (falling-drop nodes i r.falling) (omega (arith, length-drop j labels, h.as_many))

-- the node before those that are read
node-next : (nodes : List Bool) (i : ℕ) (x : Bool) → i < length nodes → get_or nodes i false ≡ x → drop i nodes ≡ x ∷ drop (suc i) nodes
node-next nodes i x q e = drop-cons nodes i false q ∙ ap (λ (y : Bool). y ∷ drop (suc i) nodes) e

leaves-within : (nodes : List Bool) (i : ℕ) → leaves_in (drop i nodes) ≤ leaves_in nodes
leaves-within nodes zero = omega arith
leaves-within [] (suc i) = omega arith
leaves-within (true ∷ nodes) (suc i) = leaves-within nodes i
leaves-within (false ∷ nodes) (suc i) = omega (arith, leaves-within nodes i)

-- before a leaf some label is left
pub label-left : (C : List ℕ) (nodes : List Bool) (labels : List ℕ) (i j : ℕ) (stack : List Subtree) → IsReadable nodes labels → i < length nodes → get_or nodes i false ≡ false
    → IsGathered C nodes labels (suc i) j stack → 0 < j
label-left C nodes labels i j stack r q e h =
    omega (arith, ap leaves_in (node-next nodes i false q e), leaves-within nodes i, r.as_many, h.as_many)

pub label-low : (nodes : List Bool) (labels : List ℕ) (j : ℕ) → IsReadable nodes labels → j < length labels → slice_index labels j ≤ MAX_EDGES
label-low nodes labels j r q = omega (arith, r.once.stays j q, r.few)

pub gathered-leaf : (C : List ℕ) (nodes : List Bool) (labels : List ℕ) (i j : ℕ) (stack : List Subtree) (s : Subtree) → i < length nodes → get_or nodes i false ≡ false
    → suc j ≤ length labels → IsGathered C nodes labels (suc i) (suc j) stack → s.root ≡ 2 * slice_index labels j → s.least ≡ slice_index labels j
    → IsGathered C nodes labels i j (stack ++ s ∷ [])
gathered-leaf C nodes labels i j stack s q e low h root is_least =
    let m = slice_index labels j in
    let node = node-next nodes i false q e in
    let all : read_trees nodes labels i j ≡ leaf m ∷ read_trees nodes labels (suc i) (suc j) =
    ap₂ forest node (drop-cons labels j 0 (omega arith)) in
    let same : s ≡ subtree_of (leaf m) = ap₂ (λ (x y : ℕ). let t : Subtree = record { root = x; least = y } in t) root is_least in
    record {
      nodes_left = omega arith;
      labels_left = omega arith;
      as_many = omega (arith, h.as_many, ap leaves_in node);
      kept = ap₂ (λ (xs : List Subtree) (x : Subtree). xs ++ x ∷ []) h.kept same ∙ ap subtrees_of (sym all);
      noted = subst (λ (ts : List Tree). AreAllNoted (slice_index C) ts) (sym all) (tt, h.noted);
    }

-- before a fork its two sides are read
pub record IsForkNext (C : List ℕ) (nodes : List Bool) (labels : List ℕ) (i j : ℕ) : Type 0 where
  pub left : Tree
  pub right : Tree
  pub rest : List Tree
  pub trees : read_trees nodes labels (suc i) j ≡ left ∷ (right ∷ rest)
  pub apart : AreApart (length labels) (left ∷ (right ∷ rest))

two-trees : (C : List ℕ) (nodes : List Bool) (labels : List ℕ) (i j : ℕ) (ts : List Tree) → read_trees nodes labels (suc i) j ≡ ts → 1 < length ts → AreApart (length labels) ts → IsForkNext C nodes labels i j
two-trees C nodes labels i j [] e q h = absurd (omega arith)
two-trees C nodes labels i j (l ∷ []) e q h = absurd (omega arith)
two-trees C nodes labels i j (l ∷ (r ∷ ts)) e q h = record { left = l; right = r; rest = ts; trees = e; apart = h }

times-drop : (m : ℕ) (labels : List ℕ) (j : ℕ) → times m (drop j labels) ≤ times m labels
times-drop m labels j = omega (arith, times-append m (take j labels) (drop j labels), ap (times m) (take-append-drop j labels))

apart-reads : (word : List Bool) (labels : List ℕ) (j : ℕ) (ts : List Tree) → IsPermutationList labels → Reads word (drop j labels) ts → AreApart (length labels) ts
apart-reads word labels j ts once h =
    let within : (m : ℕ) → label_times_all m ts ≤ times m labels = λ m. omega (arith, ap (times m) h.labels_stand, times-labels_all m ts, times-drop m labels j) in
    record {
      once = λ m. elim (cases_lt m (length labels)) [ inl q ↦ omega (arith, within m, times-once labels once m q) | inr q ↦ omega (arith, within m, times-none labels once m q) ];
      none = λ m q. omega (arith, within m, times-none labels once m q);
    }

pub fork-next : (C : List ℕ) (nodes : List Bool) (labels : List ℕ) (i j : ℕ) (stack : List Subtree) → IsReadable nodes labels → i < length nodes → get_or nodes i false ≡ true
    → IsGathered C nodes labels (suc i) j stack → IsForkNext C nodes labels i j
fork-next C nodes labels i j stack r q e h =
    let reads = gathered-reads C nodes labels (suc i) j stack r h in
    let node = node-next nodes i true q e in
    two-trees C nodes labels i j (read_trees nodes labels (suc i) j) refl
    (omega (arith, reads.count, r.falling.ends i q, ap leaves_in node, ap forks_in node))
    (apart-reads (drop (suc i) nodes) labels j (read_trees nodes labels (suc i) j) r.once reads)

-- what the code finds on its stack
pub record ArePopped (C : List ℕ) (stack first second : List Subtree) (left right : Subtree) : Type 0 where
  pub top : stack ≡ first ++ left ∷ []
  pub next : first ≡ second ++ right ∷ []

pub fork-count : (C : List ℕ) (nodes : List Bool) (labels : List ℕ) (i j : ℕ) (stack : List Subtree) → IsReadable nodes labels → i < length nodes → get_or nodes i false ≡ true
    → IsGathered C nodes labels (suc i) j stack → 1 < length stack
fork-count C nodes labels i j stack r q e h =
    let f = fork-next C nodes labels i j stack r q e h in
    omega (arith, ap length h.kept, length-subtrees (read_trees nodes labels (suc i) j), ap length f.trees)

pub record IsForkPopped (C : List ℕ) (nodes : List Bool) (labels : List ℕ) (i j : ℕ) (second : List Subtree) (left right : Subtree) : Type 0 where
  pub fork : IsForkNext C nodes labels i j
  pub left_is : left ≡ subtree_of fork.left
  pub right_is : right ≡ subtree_of fork.right
  pub second_is : second ≡ subtrees_of fork.rest

pub fork-popped : (C : List ℕ) (nodes : List Bool) (labels : List ℕ) (i j : ℕ) (stack first second : List Subtree) (left right : Subtree) → IsReadable nodes labels → i < length nodes
    → get_or nodes i false ≡ true → IsGathered C nodes labels (suc i) j stack → ArePopped C stack first second left right
    → IsForkPopped C nodes labels i j second left right
fork-popped C nodes labels i j stack first second left right r q e h popped =
    let f = fork-next C nodes labels i j stack r q e h in
    let top = same_from_push first (subtrees_of (f.right ∷ f.rest)) left (subtree_of f.left) (sym popped.top ∙ (h.kept ∙ ap subtrees_of f.trees)) in
    let next = same_from_push second (subtrees_of f.rest) right (subtree_of f.right) (sym popped.next ∙ top.0) in
    record { fork = f; left_is = top.1; right_is = next.1; second_is = next.0 }

-- what the fork needs of the list
pub record IsForkRoom (C : List ℕ) (left right : Subtree) : Type 0 where
  pub positive : 0 < max left.least right.least
  pub label_in : max left.least right.least ≤ length C
  pub left_in : left.root ≤ 2 * length C
  pub right_in : right.root ≤ 2 * length C
  pub left_noted : (t : Tree) × IsNotedTree C left.root left.least t
  pub right_noted : (t : Tree) × IsNotedTree C right.root right.least t

room-trees : (C : List ℕ) (bound : ℕ) (l r : Tree) (ts : List Tree) → AreApart bound (l ∷ (r ∷ ts)) → bound ≡ suc (length C) → AreAllNoted (slice_index C) (l ∷ (r ∷ ts)) → IsForkRoom C (subtree_of l) (subtree_of r)
room-trees C bound l r ts h room noted =
    let apart : IsApart (fork l r) = record { once = λ m. omega (arith, h.once m) } in
    let left : IsBelow bound l = record { none = λ m q. omega (arith, h.none m q) } in
    let right : IsBelow bound r = record { none = λ m q. omega (arith, h.none m q) } in
    let differ = sides-apart l r apart in
    record {
      positive = omega (arith, differ);
      label_in = omega (arith, least-below bound l left, least-below bound r right);
      left_in = omega (arith, name-below bound l left);
      right_in = omega (arith, name-below bound r right);
      left_noted = (l, record { root_is = refl; least_is = refl; noted = noted.0 });
      right_noted = (r, record { root_is = refl; least_is = refl; noted = noted.1.0 });
    }

pub fork-room : (C : List ℕ) (nodes : List Bool) (labels : List ℕ) (i j : ℕ) (stack second : List Subtree) (left right : Subtree) → length labels ≡ suc (length C)
    → IsGathered C nodes labels (suc i) j stack → IsForkPopped C nodes labels i j second left right → IsForkRoom C left right
fork-room C nodes labels i j stack second left right room before h =
    subst (λ (x : Subtree). IsForkRoom C x right) (sym h.left_is)
    (subst (λ (y : Subtree). IsForkRoom C (subtree_of h.fork.left) y) (sym h.right_is)
    (room-trees C (length labels) h.fork.left h.fork.right h.fork.rest h.fork.apart room (subst (λ (us : List Tree). AreAllNoted (slice_index C) us) h.fork.trees before.noted)))

-- the list after the fork is noted
pub record AreJoined (C D : List ℕ) (left right s : Subtree) : Type 0 where
  pub root : s.root ≡ 2 * max left.least right.least - 1
  pub is_least : s.least ≡ min left.least right.least
  pub written : (l r : Tree) → IsNotedTree C left.root left.least l → IsNotedTree C right.root right.least r
      → D ≡ slice_set C (max left.least right.least - 1) (fork_choice l r)

-- what is noted then, and that each entry is a choice
pub record IsForkNoted (C D : List ℕ) (nodes : List Bool) (labels : List ℕ) (i j : ℕ) (stack : List Subtree) : Type 0 where
  pub gathered : IsGathered D nodes labels i j stack
  pub valid : IsChoices D

choices-set : (C : List ℕ) (i v : ℕ) → IsChoices C → v < 2 * (2 * i + 1) → i < length C → IsChoices (slice_set C i v)
choices-set C i v h low q =
    λ k p. elim (cases_eq k i) [
      | inl e ↦ omega (arith, e, low, ap (slice_index (slice_set C i v)) e ∙ get_or-set_same C i v 0 q)
      | inr e ↦ omega (arith, get_or-set_other C i k v 0 e, h k (omega (arith, length-set C i v)))
    ]

gathered-joined : (C D : List ℕ) (nodes : List Bool) (labels : List ℕ) (i j : ℕ) (l r : Tree) (ts : List Tree) (stack : List Subtree) (s : Subtree) → i < length nodes → get_or nodes i false ≡ true
    → length labels ≡ suc (length C) → IsChoices C
    → length labels ≡ j + leaves_in (drop (suc i) nodes) → j ≤ length labels
    → AreAllNoted (slice_index C) (read_trees nodes labels (suc i) j)
    → read_trees nodes labels (suc i) j ≡ l ∷ (r ∷ ts) → AreApart (length labels) (l ∷ (r ∷ ts)) → stack ≡ subtrees_of ts → AreJoined C D (subtree_of l) (subtree_of r) s
    → IsForkNoted C D nodes labels i j (stack ++ s ∷ [])
gathered-joined C D nodes labels i j l r ts stack s q e room valid many low noted trees apart kept h =
    let node = node-next nodes i true q e in
    let all : read_trees nodes labels i j ≡ fork l r ∷ ts = ap (λ (w : List Bool). forest w (drop j labels)) node ∙ ap joined trees in
    let same : s ≡ subtree_of (fork l r) = ap₂ (λ (x y : ℕ). let t : Subtree = record { root = x; least = y } in t) h.root h.is_least in
    let before = subst (λ (us : List Tree). AreAllNoted (slice_index C) us) trees noted in
    let space = room-trees C (length labels) l r ts apart room before in
    let here : max (least l) (least r) - 1 < length C = omega (arith, space.positive, space.label_in) in
    let after = noted-joined C (length labels) l r ts apart here before in
    let written = h.written l r (record { root_is = refl; least_is = refl; noted = before.0 }) (record { root_is = refl; least_is = refl; noted = before.1.0 }) in
    let both : IsApart (fork l r) = record { once = λ m. omega (arith, apart.once m) } in
    record {
      gathered = record {
        nodes_left = omega arith;
        labels_left = low;
        as_many = omega (arith, many, ap leaves_in node);
        kept = ap₂ (λ (xs : List Subtree) (x : Subtree). xs ++ x ∷ []) kept same ∙ ap subtrees_of (sym all);
        noted = subst (λ (us : List Tree). AreAllNoted (slice_index D) us) (sym all)
            (subst (λ (xs : List ℕ). AreAllNoted (slice_index xs) (fork l r ∷ ts)) (sym written) after);
      };
      valid = subst (λ (xs : List ℕ). IsChoices xs) (sym written) (choices-set C (max (least l) (least r) - 1) (fork_choice l r) valid (choice-low l r both) here);
    }

pub gathered-fork : (C D : List ℕ) (nodes : List Bool) (labels : List ℕ) (i j : ℕ) (stack second : List Subtree) (left right s : Subtree) → i < length nodes → get_or nodes i false ≡ true
    → length labels ≡ suc (length C) → IsChoices C → IsGathered C nodes labels (suc i) j stack
    → IsForkPopped C nodes labels i j second left right → AreJoined C D left right s → IsForkNoted C D nodes labels i j (second ++ s ∷ [])
gathered-fork C D nodes labels i j stack second left right s q e room valid h popped joins =
    gathered-joined C D nodes labels i j popped.fork.left popped.fork.right popped.fork.rest second s q e room valid h.as_many h.labels_left h.noted
    popped.fork.trees popped.fork.apart popped.second_is
    (subst (λ (x : Subtree). AreJoined C D x (subtree_of popped.fork.right) s) popped.left_is
    (subst (λ (y : Subtree). AreJoined C D left y s) popped.right_is joins))

-- at the end one tree is read, the whole
pub record IsWholeRead (C : List ℕ) (t : Tree) (stack : List Subtree) : Type 0 where
  pub kept : stack ≡ subtree_of t ∷ []
  pub noted : AreNoted (slice_index C) t

one-read : (C : List ℕ) (ts : List Tree) (stack : List Subtree) → length ts ≡ 1 → stack ≡ subtrees_of ts → AreAllNoted (slice_index C) ts → IsWholeRead C (first_of ts) stack
one-read C [] stack e kept noted = absurd (omega arith)
one-read C (t ∷ []) stack e kept noted = record { kept = kept; noted = noted.0 }
one-read C (t ∷ (u ∷ ts)) stack e kept noted = absurd (omega arith)

pub whole-read : (C : List ℕ) (nodes : List Bool) (labels : List ℕ) (j : ℕ) (stack : List Subtree) → IsReadable nodes labels → IsGathered C nodes labels 0 j stack
    → IsWholeRead C (tree_of nodes labels) stack
unfolding tree_of
whole-read C nodes labels j stack r h =
    let none : j ≡ 0 = omega (arith, h.as_many, r.as_many) in
    let start = subst (λ (n : ℕ). IsGathered C nodes labels 0 n stack) none h in
    let reads = gathered-reads C nodes labels 0 0 stack r start in
    one-read C (forest nodes labels) stack (omega (arith, reads.count, r.sum)) start.kept start.noted

pub gathered-at : (C : List ℕ) (nodes : List Bool) (labels : List ℕ) (n i j : ℕ) (stack : List Subtree) → n ≡ suc i → IsGathered C nodes labels n j stack → IsGathered C nodes labels (suc i) j stack
gathered-at C nodes labels n i j stack e h = subst (λ (m : ℕ). IsGathered C nodes labels m j stack) e h

pub gathered-at_label : (C : List ℕ) (nodes : List Bool) (labels : List ℕ) (i n j : ℕ) (stack : List Subtree) → n ≡ suc j → IsGathered C nodes labels i n stack → IsGathered C nodes labels i (suc j) stack
gathered-at_label C nodes labels i n j stack e h = subst (λ (m : ℕ). IsGathered C nodes labels i m stack) e h
