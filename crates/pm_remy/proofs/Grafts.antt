-- What a new leaf does to a tree, and what the taking away of the greatest label does.
use Rattle.std.proofs.Common.{◌≡◌, ℕ, ◌+◌, ◌-◌, ◌*◌, ◌<◌, ◌≢◌, ◌⊎◌, ◌==◌, min, max, ap, ap₂, ◌∙◌, inl, inr, arith, eq-eqb, ne_eqb}
use Rattle.std.proofs.lemmas.Bool.{cases_eq, cond-true, cond-false}
use Rattle.pm_remy.specs.Tree.{Tree, leaf, fork, least, name}
use Rattle.pm_remy.specs.Growth.{beside, grafted}
use Rattle.pm_remy.proofs.Counts.{hit, hit_other, hit_same, label_times, name_times, IsBelow, below-left, below-right, least-below}

-- on which side the new leaf stands
pub beside_cases : (s k : ℕ) (t : Tree) → ((s ≡ 0) × (beside s k t ≡ fork t (leaf k))) ⊎ ((s ≢ 0) × (beside s k t ≡ fork (leaf k) t))
unfolding beside
beside_cases s k t =
    elim (cases_eq s 0) [
      | inl e ↦ inl (e, cond-true (s == 0) (fork t (leaf k)) (fork (leaf k) t) (eq-eqb s 0 e))
      | inr e ↦ inr (e, cond-false (s == 0) (fork t (leaf k)) (fork (leaf k) t) (ne_eqb s 0 e))
    ]

-- the new leaf stands beside the node of that name
pub grafted-here : (a s k : ℕ) (t : Tree) → name t ≡ a → grafted a s k t ≡ beside s k t
unfolding grafted
grafted-here a s k (leaf m) e = cond-true (name (leaf m) == a) (beside s k (leaf m)) (leaf m) (eq-eqb (name (leaf m)) a e)
grafted-here a s k (fork l r) e =
    cond-true (name (fork l r) == a) (beside s k (fork l r)) (fork (grafted a s k l) (grafted a s k r)) (eq-eqb (name (fork l r)) a e)

-- elsewhere it stands within the sides, if at all
pub grafted-leaf : (a s k m : ℕ) → name (leaf m) ≢ a → grafted a s k (leaf m) ≡ leaf m
unfolding grafted
grafted-leaf a s k m e = cond-false (name (leaf m) == a) (beside s k (leaf m)) (leaf m) (ne_eqb (name (leaf m)) a e)

pub grafted-fork : (a s k : ℕ) (l r : Tree) → name (fork l r) ≢ a → grafted a s k (fork l r) ≡ fork (grafted a s k l) (grafted a s k r)
unfolding grafted
grafted-fork a s k l r e =
    cond-false (name (fork l r) == a) (beside s k (fork l r)) (fork (grafted a s k l) (grafted a s k r)) (ne_eqb (name (fork l r)) a e)

beside-least : (s k : ℕ) (t : Tree) → least t < k → least (beside s k t) ≡ least t
beside-least s k t h = elim (beside_cases s k t) [ inl w ↦ rw w.1 (omega arith) | inr w ↦ rw w.1 (omega arith) ]

-- the least label stays
pub grafted-least : (a s k : ℕ) (t : Tree) → IsBelow k t → least (grafted a s k t) ≡ least t
grafted-least a s k (leaf m) h =
    elim (cases_eq (name (leaf m)) a) [
      | inl e ↦ ap least (grafted-here a s k (leaf m) e) ∙ beside-least s k (leaf m) (least-below k (leaf m) h)
      | inr e ↦ ap least (grafted-leaf a s k m e)
    ]
grafted-least a s k (fork l r) h =
    elim (cases_eq (name (fork l r)) a) [
      | inl e ↦ ap least (grafted-here a s k (fork l r) e) ∙ beside-least s k (fork l r) (least-below k (fork l r) h)
      | inr e ↦ ap least (grafted-fork a s k l r e)
          ∙ ap₂ min (grafted-least a s k l (below-left k l r h)) (grafted-least a s k r (below-right k l r h))
    ]

-- the new fork is named after the new leaf
pub beside-name : (s k : ℕ) (t : Tree) → IsBelow k t → name (beside s k t) ≡ 2 * k - 1
beside-name s k t h =
    let low = least-below k t h in
    elim (beside_cases s k t) [ inl w ↦ rw w.1 (omega arith) | inr w ↦ rw w.1 (omega arith) ]

-- the names of the other nodes stay
pub grafted-name : (a s k : ℕ) (t : Tree) → IsBelow k t → name t ≢ a → name (grafted a s k t) ≡ name t
grafted-name a s k (leaf m) h e = ap name (grafted-leaf a s k m e)
grafted-name a s k (fork l r) h e =
    ap name (grafted-fork a s k l r e)
    ∙ ap₂ (λ (x y : ℕ). 2 * max x y - 1) (grafted-least a s k l (below-left k l r h)) (grafted-least a s k r (below-right k l r h))

-- a tree without a node of that name stays
pub grafted-same : (a s k : ℕ) (t : Tree) → name_times a t ≡ 0 → grafted a s k t ≡ t
grafted-same a s k (leaf m) h = elim (cases_eq (name (leaf m)) a) [ inl e ↦ absurd (omega (arith, hit_same (2 * m) a e)) | inr e ↦ grafted-leaf a s k m e ]
grafted-same a s k (fork l r) h =
    elim (cases_eq (name (fork l r)) a) [
      | inl e ↦ absurd (omega (arith, hit_same (name (fork l r)) a e))
      | inr e ↦ grafted-fork a s k l r e ∙ ap₂ fork (grafted-same a s k l (omega arith)) (grafted-same a s k r (omega arith))
    ]

beside-labels : (s k m : ℕ) (t : Tree) → label_times m (beside s k t) ≡ label_times m t + hit k m
beside-labels s k m t = elim (beside_cases s k t) [ inl w ↦ rw w.1 (omega arith) | inr w ↦ rw w.1 (omega arith) ]

-- the new label is the one that comes to the labels
pub grafted-labels : (a s k m : ℕ) (t : Tree) → name_times a t ≡ 1 → label_times m (grafted a s k t) ≡ label_times m t + hit k m
grafted-labels a s k m (leaf j) h =
    elim (cases_eq (name (leaf j)) a) [
      | inl e ↦ ap (label_times m) (grafted-here a s k (leaf j) e) ∙ beside-labels s k m (leaf j)
      | inr e ↦ absurd (omega (arith, hit_other (2 * j) a e))
    ]
grafted-labels a s k m (fork l r) h =
    elim (cases_eq (name (fork l r)) a) [
      | inl e ↦ ap (label_times m) (grafted-here a s k (fork l r) e) ∙ beside-labels s k m (fork l r)
      | inr e ↦ ap (label_times m) (grafted-fork a s k l r e)
          ∙ elim (cases_eq (name_times a l) 1) [
            | inl x ↦ omega (arith, grafted-labels a s k m l x, ap (label_times m) (grafted-same a s k r (omega arith)))
            | inr x ↦ omega (arith, hit_other (name (fork l r)) a e, grafted-labels a s k m r (omega (arith, hit_other (name (fork l r)) a e)), ap (label_times m) (grafted-same a s k l (omega (arith, hit_other (name (fork l r)) a e))))
          ]
    ]
