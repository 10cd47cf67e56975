-- What a new leaf does to the two lists of a tree.
use Rattle.std.proofs.Common.{◌≡◌, ℕ, suc, ◌-◌, ◌*◌, ◌<◌, ◌≤◌, ◌≢◌, sym, subst, ap, ◌∙◌, inl, inr, arith}
use Rattle.std.proofs.lemmas.Bool.{cases_lt, cases_eq}
use Rattle.pm_remy.specs.Tree.{Tree, leaf, fork, least, name}
use Rattle.pm_remy.specs.Growth.{beside, grafted}
use Rattle.pm_remy.specs.steps.Linked.{IsHung, IsLinked, IsRooted}
use Rattle.pm_remy.proofs.Counts.{hit_other, hit_same, label_times, name_times, least-stands, IsApart, IsBelow, apart-left, apart-right, below-left, below-right, least-below, name-below, names-apart}
use Rattle.pm_remy.proofs.Grafts.{beside_cases, beside-name, grafted-here, grafted-leaf, grafted-fork, grafted-name, grafted-same}

-- The lists after differ from those before in this: the fork hangs at the place at which the node hung. What the lists
-- hold from the fork's own place on is left open.
pub record IsStep (links places links_after places_after : ℕ → ℕ) (fork_name node place : ℕ) : Type 0 where
  pub before : IsHung links places place node
  pub after : IsHung links_after places_after place fork_name
  pub links_stay : (q : ℕ) → q < fork_name → q ≢ place → links_after q ≡ links q
  pub places_stay : (b : ℕ) → b < fork_name → b ≢ node → places_after b ≡ places b

-- the node and the new leaf hang at the places of the new fork
pub record IsBranched (links places : ℕ → ℕ) (side label node : ℕ) : Type 0 where
  pub right : side ≡ 0 → IsHung links places (2 * label - 1) node × IsHung links places (suc (2 * label - 1)) (2 * label)
  pub left : side ≢ 0 → IsHung links places (2 * label - 1) (2 * label) × IsHung links places (suc (2 * label - 1)) node

-- the least labels of the two sides differ
pub sides-apart : (l r : Tree) → IsApart (fork l r) → least l ≢ least r
sides-apart l r h e =
    omega (arith, h.once (least l), least-stands l, subst (λ (m : ℕ). 1 ≤ label_times m r) (sym e) (least-stands r))

-- the second place of a fork is below the next fork's name
pub fork-below : (k : ℕ) (l r : Tree) → IsBelow k (fork l r) → IsApart (fork l r) → suc (name (fork l r)) < 2 * k - 1
fork-below k l r h w =
    omega (arith, sides-apart l r w, least-below k l (below-left k l r h), least-below k r (below-right k l r h))

pub tree-below : (k : ℕ) (t : Tree) → IsBelow k t → name t < 2 * k - 1
tree-below k t h = omega (arith, name-below k t h)

pub grafted-root : (a s k : ℕ) (t : Tree) → IsBelow k t → name t ≡ a → name (grafted a s k t) ≡ 2 * k - 1
grafted-root a s k t h e = ap name (grafted-here a s k t e) ∙ beside-name s k t h

-- what hung at a place hangs there after the step, under its new name
hung-after : (links places links_after places_after : ℕ → ℕ) (k a s p q : ℕ) (t : Tree) → IsStep links places links_after places_after (2 * k - 1) a p
    → IsBelow k t → q < 2 * k - 1 → IsHung links places q (name t) → IsHung links_after places_after q (name (grafted a s k t))
hung-after links places links_after places_after k a s p q t step h i hung =
    elim (cases_eq (name t) a) [
      | inl e ↦ let here : q ≡ p = sym hung.up ∙ (ap places e ∙ step.before.up) in
          subst (λ (x : ℕ). IsHung links_after places_after q x) (sym (grafted-root a s k t h e))
          (subst (λ (x : ℕ). IsHung links_after places_after x (2 * k - 1)) (sym here) step.after)
      | inr e ↦ let other : q ≢ p = λ x. e (sym hung.down ∙ (ap links x ∙ step.before.down)) in
          subst (λ (x : ℕ). IsHung links_after places_after q x) (sym (grafted-name a s k t h e))
          (record { down = step.links_stay q i other ∙ hung.down; up = step.places_stay (name t) (tree-below k t h) e ∙ hung.up })
    ]

-- the new fork is linked where the node is
linked-beside : (links places : ℕ → ℕ) (k s : ℕ) (t : Tree) → IsBelow k t → IsBranched links places s k (name t) → IsLinked links places t → IsLinked links places (beside s k t)
linked-beside links places k s t h b linked =
    elim (beside_cases s k t) [
      | inl w ↦ let n : 2 * k - 1 ≡ name (fork t (leaf k)) = sym (beside-name s k t h) ∙ ap name w.1 in
          subst (λ (u : Tree). IsLinked links places u) (sym w.1) (
            subst (λ (x : ℕ). IsHung links places x (name t)) n (b.right w.0).0,
            subst (λ (x : ℕ). IsHung links places (suc x) (2 * k)) n (b.right w.0).1,
            linked,
            tt,
          )
      | inr w ↦ let n : 2 * k - 1 ≡ name (fork (leaf k) t) = sym (beside-name s k t h) ∙ ap name w.1 in
          subst (λ (u : Tree). IsLinked links places u) (sym w.1) (
            subst (λ (x : ℕ). IsHung links places x (2 * k)) n (b.left w.0).0,
            subst (λ (x : ℕ). IsHung links places (suc x) (name t)) n (b.left w.0).1,
            tt,
            linked,
          )
    ]

-- the two sides of a fork, each with its new leaf
abbrev SidesLinked : (ℕ → ℕ) → (ℕ → ℕ) → ℕ → Tree → Tree → Type 0
SidesLinked links places f l r = IsHung links places f (name l) × IsHung links places (suc f) (name r) × IsLinked links places l × IsLinked links places r

linked-fork : (links places : ℕ → ℕ) (a s k : ℕ) (l r : Tree) → IsBelow k (fork l r)
    → SidesLinked links places (name (fork l r)) (grafted a s k l) (grafted a s k r)
    → name (fork l r) ≢ a → IsLinked links places (grafted a s k (fork l r))
linked-fork links places a s k l r h linked e =
    let same : name (fork l r) ≡ name (fork (grafted a s k l) (grafted a s k r)) = sym (grafted-name a s k (fork l r) h e) ∙ ap name (grafted-fork a s k l r e) in
    subst (λ (u : Tree). IsLinked links places u) (sym (grafted-fork a s k l r e))
    (subst (λ (f : ℕ). SidesLinked links places f (grafted a s k l) (grafted a s k r)) same linked)

-- a fork of the name has no other node of that name within
sides-same : (a s k : ℕ) (l r : Tree) → name_times a (fork l r) ≤ 1 → name (fork l r) ≡ a → (grafted a s k l ≡ l) × (grafted a s k r ≡ r)
sides-same a s k l r w e =
    (grafted-same a s k l (omega (arith, hit_same (name (fork l r)) a e)), grafted-same a s k r (omega (arith, hit_same (name (fork l r)) a e)))

-- the lists after the step link the tree with the new leaf
pub linked-after : (links places links_after places_after : ℕ → ℕ) (k a s p : ℕ) (t : Tree) → IsStep links places links_after places_after (2 * k - 1) a p
    → IsBranched links_after places_after s k a → IsBelow k t → IsApart t → IsLinked links places t → IsLinked links_after places_after (grafted a s k t)
linked-after links places links_after places_after k a s p (leaf m) step b h w linked =
    elim (cases_eq (name (leaf m)) a) [
      | inl e ↦ subst (λ (u : Tree). IsLinked links_after places_after u) (sym (grafted-here a s k (leaf m) e))
          (linked-beside links_after places_after k s (leaf m) h (subst (λ (x : ℕ). IsBranched links_after places_after s k x) (sym e) b) tt)
      | inr e ↦ subst (λ (u : Tree). IsLinked links_after places_after u) (sym (grafted-leaf a s k m e)) tt
    ]
linked-after links places links_after places_after k a s p (fork l r) step b h w linked =
    let low = fork-below k l r h w in
    let sides : SidesLinked links_after places_after (name (fork l r)) (grafted a s k l) (grafted a s k r) = (
      hung-after links places links_after places_after k a s p (name (fork l r)) l step (below-left k l r h) (omega arith) linked.0,
      hung-after links places links_after places_after k a s p (suc (name (fork l r))) r step (below-right k l r h) low linked.1,
      linked-after links places links_after places_after k a s p l step b (below-left k l r h) (apart-left l r w) linked.2,
      linked-after links places links_after places_after k a s p r step b (below-right k l r h) (apart-right l r w) linked.3,
    ) in
    elim (cases_eq (name (fork l r)) a) [
      | inl e ↦ let same = sides-same a s k l r (names-apart (fork l r) w a) e in
          let whole : IsLinked links_after places_after (fork l r) =
          subst (λ (x : Tree). SidesLinked links_after places_after (name (fork l r)) x r) same.0
          (subst (λ (y : Tree). SidesLinked links_after places_after (name (fork l r)) (grafted a s k l) y) same.1 sides) in
          subst (λ (u : Tree). IsLinked links_after places_after u) (sym (grafted-here a s k (fork l r) e))
          (linked-beside links_after places_after k s (fork l r) h (subst (λ (x : ℕ). IsBranched links_after places_after s k x) (sym e) b) whole)
      | inr e ↦ linked-fork links_after places_after a s k l r h sides e
    ]

-- the whole tree
pub rooted-after : (links places links_after places_after : ℕ → ℕ) (k a s p : ℕ) (t : Tree) → IsStep links places links_after places_after (2 * k - 1) a p
    → IsBranched links_after places_after s k a → IsBelow k t → IsApart t → IsRooted links places t → IsRooted links_after places_after (grafted a s k t)
rooted-after links places links_after places_after k a s p t step b h w rooted =
    record {
      root = hung-after links places links_after places_after k a s p 0 t step h (omega (arith, tree-below k t h)) rooted.root;
      within = linked-after links places links_after places_after k a s p t step b h w rooted.within;
    }

-- a node of the tree hangs at its place
pub record IsPlaced (links places : ℕ → ℕ) (bound node : ℕ) : Type 0 where
  pub hangs : links (places node) ≡ node
  pub low : places node < bound

placed-within : (links places : ℕ → ℕ) (k b q : ℕ) (t : Tree) → IsBelow k t → IsApart t → IsHung links places q (name t) → q < 2 * k - 1
    → IsLinked links places t → 1 ≤ name_times b t → IsPlaced links places (2 * k - 1) b
placed-within links places k b q (leaf m) h w hung i linked stands =
    elim (cases_eq (2 * m) b) [
      | inl e ↦ subst (λ (x : ℕ). IsPlaced links places (2 * k - 1) x) e (record { hangs = ap links hung.up ∙ hung.down; low = omega (arith, hung.up) })
      | inr e ↦ absurd (omega (arith, hit_other (2 * m) b e))
    ]
placed-within links places k b q (fork l r) h w hung i linked stands =
    let low = fork-below k l r h w in
    elim (cases_eq (name (fork l r)) b) [
      | inl e ↦ subst (λ (x : ℕ). IsPlaced links places (2 * k - 1) x) e (record { hangs = ap links hung.up ∙ hung.down; low = omega (arith, hung.up) })
      | inr e ↦ elim (cases_lt 0 (name_times b l)) [
        | inl x ↦ placed-within links places k b (name (fork l r)) l (below-left k l r h) (apart-left l r w) linked.0 (omega arith) linked.2 x
        | inr x ↦ placed-within links places k b (suc (name (fork l r))) r (below-right k l r h) (apart-right l r w) linked.1 low linked.3
            (omega (arith, hit_other (name (fork l r)) b e))
      ]
    ]

pub placed : (links places : ℕ → ℕ) (k b : ℕ) (t : Tree) → IsBelow k t → IsApart t → IsRooted links places t → 1 ≤ name_times b t → IsPlaced links places (2 * k - 1) b
placed links places k b t h w rooted stands = placed-within links places k b 0 t h w rooted.root (omega (arith, tree-below k t h)) rooted.within stands
