-- The walk over the lists of a tree in preorder: the trees that are still to be met.
use Rattle.std.proofs.Common.{◌≡◌, ℕ, suc, ◌*◌, ◌/◌, ◌%◌, ◌<◌, ◌≤◌, ◌⊎◌, Bool, true, false, List, [], ◌∷◌, ◌++◌, length, refl, sym, subst, ap, ap₂, ◌∙◌, inl, inr, arith, append_assoc, append-nil, length-append}
use Rattle.std.proofs.lemmas.List.{length_push, same_from_push}
use Rattle.pm_limits.specs.declared.TheConstants.{MAX_EDGES}
use Rattle.pm_remy.specs.Tree.{Tree, leaf, fork, labels_of, shape_of, leaves}
use Rattle.pm_remy.specs.Words.{tree_of, tree_of-words, IsLabelTree, IsWritten}
use Rattle.pm_remy.specs.steps.Linked.{IsTied}
use Rattle.pm_remy.proofs.Reading.{shapes_of, labels_of_all, written-tree}

-- the numbers, the first one last
abbrev pub stacked : List ℕ → List ℕ
stacked [] = []
stacked (h ∷ hs) = stacked hs ++ h ∷ []

-- each of the trees is held from its number on
abbrev pub AreTied : (ℕ → ℕ) → ℕ → List ℕ → List Tree → Type 0
AreTied links bound [] [] = Unit {0}
AreTied links bound [] (t ∷ ts) = ⊥
AreTied links bound (h ∷ hs) [] = ⊥
AreTied links bound (h ∷ hs) (t ∷ ts) = IsTied links bound h t × AreTied links bound hs ts

-- the tree is what is written of it and the trees that wait
pub record IsAhead (links : ℕ → ℕ) (bound : ℕ) (t : Tree) (hs : List ℕ) (ts : List Tree) (nodes : List Bool) (labels ahead : List ℕ) : Type 0 where
  pub waiting : ahead ≡ stacked hs
  pub tied : AreTied links bound hs ts
  pub shape : nodes ++ shapes_of ts ≡ shape_of t
  pub labels_stand : labels ++ labels_of_all ts ≡ labels_of t

pub length-shape : (t : Tree) → suc (length (shape_of t)) ≡ 2 * leaves t
length-shape (leaf m) = refl
length-shape (fork l r) = omega (arith, length-shape l, length-shape r, length-append (shape_of l) (shape_of r), length-append (labels_of l) (labels_of r))

pub ahead-start : (links : ℕ → ℕ) (bound : ℕ) (t : Tree) → IsTied links bound (links 0) t → IsAhead links bound t (links 0 ∷ []) (t ∷ []) [] [] (links 0 ∷ [])
ahead-start links bound t h =
    record {
      waiting = refl;
      tied = (h, tt);
      shape = append-nil (shape_of t);
      labels_stand = append-nil (labels_of t);
    }

-- what the next step does: the tree that is met is a leaf, or a fork whose sides then wait
pub record IsLeafMet (links : ℕ → ℕ) (bound : ℕ) (t : Tree) (nodes : List Bool) (labels rest : List ℕ) (node : ℕ) : Type 0 where
  pub even : node % 2 ≡ 0
  pub numbers : List ℕ
  pub trees : List Tree
  pub next : IsAhead links bound t numbers trees (nodes ++ false ∷ []) (labels ++ node / 2 ∷ []) rest

pub record IsForkMet (links : ℕ → ℕ) (bound : ℕ) (t : Tree) (nodes : List Bool) (labels rest : List ℕ) (node : ℕ) : Type 0 where
  pub odd : node % 2 ≡ 1
  pub low : suc node < bound
  pub numbers : List ℕ
  pub trees : List Tree
  pub next : IsAhead links bound t numbers trees (nodes ++ true ∷ []) labels ((rest ++ links (suc node) ∷ []) ++ links node ∷ [])

leaf-met : (links : ℕ → ℕ) (bound : ℕ) (t : Tree) (m h : ℕ) (hs : List ℕ) (ts : List Tree) (nodes : List Bool) (labels rest : List ℕ) (node : ℕ)
    → IsAhead links bound t (h ∷ hs) (leaf m ∷ ts) nodes labels (rest ++ node ∷ []) → IsLeafMet links bound t nodes labels rest node
leaf-met links bound t m h hs ts nodes labels rest node a =
    let top = same_from_push rest (stacked hs) node h a.waiting in
    let label : node / 2 ≡ m = omega (arith, top.1, a.tied.0) in
    record {
      even = omega (arith, top.1, a.tied.0);
      numbers = hs;
      trees = ts;
      next = record {
        waiting = top.0;
        tied = a.tied.1;
        shape = append_assoc nodes (false ∷ []) (shapes_of ts) ∙ a.shape;
        labels_stand = append_assoc labels (node / 2 ∷ []) (labels_of_all ts) ∙ (ap (λ (x : ℕ). labels ++ x ∷ labels_of_all ts) label ∙ a.labels_stand);
      };
    }

fork-met : (links : ℕ → ℕ) (bound : ℕ) (t l r : Tree) (h : ℕ) (hs : List ℕ) (ts : List Tree) (nodes : List Bool) (labels rest : List ℕ) (node : ℕ)
    → IsAhead links bound t (h ∷ hs) (fork l r ∷ ts) nodes labels (rest ++ node ∷ []) → IsForkMet links bound t nodes labels rest node
fork-met links bound t l r h hs ts nodes labels rest node a =
    let top = same_from_push rest (stacked hs) node h a.waiting in
    let here : h ≡ node = sym top.1 in
    let tied = subst (λ (x : ℕ). IsTied links bound x (fork l r)) here a.tied.0 in
    record {
      odd = tied.0;
      low = tied.1;
      numbers = links node ∷ (links (suc node) ∷ hs);
      trees = l ∷ (r ∷ ts);
      next = record {
        waiting = ap (λ (xs : List ℕ). (xs ++ links (suc node) ∷ []) ++ links node ∷ []) top.0;
        tied = (tied.2, (tied.3, a.tied.1));
        shape = append_assoc nodes (true ∷ []) (shapes_of (l ∷ (r ∷ ts)))
            ∙ (ap (λ (w : List Bool). nodes ++ true ∷ w) (sym (append_assoc (shape_of l) (shape_of r) (shapes_of ts))) ∙ a.shape);
        labels_stand = ap (λ (w : List ℕ). labels ++ w) (sym (append_assoc (labels_of l) (labels_of r) (labels_of_all ts))) ∙ a.labels_stand;
      };
    }

no-push : (xs : List ℕ) (x : ℕ) → xs ++ x ∷ [] ≡ [] → ⊥
no-push xs x e = omega (arith, ap length e, length_push xs x)

-- one of the two is met
pub next-met : (links : ℕ → ℕ) (bound : ℕ) (t : Tree) (hs : List ℕ) (ts : List Tree) (nodes : List Bool) (labels rest : List ℕ) (node : ℕ)
    → IsAhead links bound t hs ts nodes labels (rest ++ node ∷ [])
    → (IsLeafMet links bound t nodes labels rest node) ⊎ (IsForkMet links bound t nodes labels rest node)
next-met links bound t [] ts nodes labels rest node a = absurd (no-push rest node a.waiting)
next-met links bound t (h ∷ hs) [] nodes labels rest node a = absurd a.tied
next-met links bound t (h ∷ hs) (leaf m ∷ ts) nodes labels rest node a = inl (leaf-met links bound t m h hs ts nodes labels rest node a)
next-met links bound t (h ∷ hs) (fork l r ∷ ts) nodes labels rest node a = inr (fork-met links bound t l r h hs ts nodes labels rest node a)

-- nodes are left while some wait
pub ahead-short : (links : ℕ → ℕ) (bound : ℕ) (t : Tree) (hs : List ℕ) (ts : List Tree) (nodes : List Bool) (labels ahead : List ℕ) → IsAhead links bound t hs ts nodes labels ahead
    → suc (length nodes) ≤ 2 * leaves t
ahead-short links bound t hs ts nodes labels ahead h =
    omega (arith, length-shape t, ap length h.shape, length-append nodes (shapes_of ts))

nothing-waits : (links : ℕ → ℕ) (bound : ℕ) (hs : List ℕ) (ts : List Tree) → AreTied links bound hs ts → stacked hs ≡ [] → ts ≡ []
nothing-waits links bound [] [] h e = refl
nothing-waits links bound [] (t ∷ ts) h e = absurd h
nothing-waits links bound (x ∷ hs) ts h e = absurd (no-push (stacked hs) x e)

-- at the end the tree is written
pub record IsAllMet (t : Tree) (nodes : List Bool) (labels : List ℕ) : Type 0 where
  pub shape : nodes ≡ shape_of t
  pub labels_stand : labels ≡ labels_of t

pub all-met : (links : ℕ → ℕ) (bound : ℕ) (t : Tree) (hs : List ℕ) (ts : List Tree) (nodes : List Bool) (labels : List ℕ) → IsAhead links bound t hs ts nodes labels [] → IsAllMet t nodes labels
all-met links bound t hs ts nodes labels h =
    let none = nothing-waits links bound hs ts h.tied (sym h.waiting) in
    record {
      shape = sym (append-nil nodes) ∙ (ap (λ (us : List Tree). nodes ++ shapes_of us) (sym none) ∙ h.shape);
      labels_stand = sym (append-nil labels) ∙ (ap (λ (us : List Tree). labels ++ labels_of_all us) (sym none) ∙ h.labels_stand);
    }

pub tree-met : (t : Tree) (nodes : List Bool) (labels : List ℕ) → IsAllMet t nodes labels → tree_of nodes labels ≡ t
tree-met t nodes labels h = ap₂ tree_of h.shape h.labels_stand ∙ tree_of-words t

pub written-met : (t : Tree) (nodes : List Bool) (labels : List ℕ) → IsLabelTree t → IsAllMet t nodes labels → IsWritten nodes labels
written-met t nodes labels w h =
    subst (λ (v : List Bool). IsWritten v labels) (sym h.shape) (subst (λ (ms : List ℕ). IsWritten (shape_of t) ms) (sym h.labels_stand) (written-tree t w))

-- some trees wait
pub record IsWalked (links : ℕ → ℕ) (bound : ℕ) (t : Tree) (nodes : List Bool) (labels ahead : List ℕ) : Type 0 where
  pub numbers : List ℕ
  pub trees : List Tree
  pub state : IsAhead links bound t numbers trees nodes labels ahead

-- a step of the walk
pub walked-leaf : (links : ℕ → ℕ) (bound : ℕ) (t : Tree) (nodes : List Bool) (labels rest : List ℕ) (node : ℕ)
    → IsWalked links bound t nodes labels (rest ++ node ∷ []) → node % 2 ≡ 0 → IsWalked links bound t (nodes ++ false ∷ []) (labels ++ node / 2 ∷ []) rest
walked-leaf links bound t nodes labels rest node h even =
    elim (next-met links bound t h.numbers h.trees nodes labels rest node h.state) [
      | inl m ↦ record { numbers = m.numbers; trees = m.trees; state = m.next }
      | inr m ↦ absurd (omega (arith, m.odd))
    ]

pub walked-fork : (links : ℕ → ℕ) (bound : ℕ) (t : Tree) (nodes : List Bool) (labels rest : List ℕ) (node : ℕ)
    → IsWalked links bound t nodes labels (rest ++ node ∷ []) → (node % 2 ≡ 0 → ⊥)
    → IsWalked links bound t (nodes ++ true ∷ []) labels ((rest ++ links (suc node) ∷ []) ++ links node ∷ [])
walked-fork links bound t nodes labels rest node h odd =
    elim (next-met links bound t h.numbers h.trees nodes labels rest node h.state) [
      | inl m ↦ absurd (odd m.even)
      | inr m ↦ record { numbers = m.numbers; trees = m.trees; state = m.next }
    ]

pub fork-low : (links : ℕ → ℕ) (bound : ℕ) (t : Tree) (nodes : List Bool) (labels rest : List ℕ) (node : ℕ)
    → IsWalked links bound t nodes labels (rest ++ node ∷ []) → (node % 2 ≡ 0 → ⊥) → suc node < bound
fork-low links bound t nodes labels rest node h odd =
    elim (next-met links bound t h.numbers h.trees nodes labels rest node h.state) [
      | inl m ↦ absurd (odd m.even)
      | inr m ↦ m.low
    ]

-- how long the words of a tree are
pub record IsSized (nodes : List Bool) (labels : List ℕ) : Type 0 where
  pub sizes : suc (length nodes) ≡ 2 * length labels
  pub few : length labels ≤ suc MAX_EDGES

pub sized-written : (nodes : List Bool) (labels : List ℕ) → IsWritten nodes labels → IsSized nodes labels
sized-written nodes labels w =
    record {
      sizes = omega (arith, length-shape (tree_of nodes labels), ap length w.shape, ap length w.labels_stand);
      few = omega (arith, w.labelled.few, ap length w.labels_stand);
    }
