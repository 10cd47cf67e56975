-- Taking the greatest label away is the inverse of a new leaf.
use Rattle.std.proofs.Common.{◌≡◌, ℕ, ◌+◌, ◌*◌, ◌<◌, ◌≤◌, ◌≢◌, ◌⊎◌, true, false, if◌then◌else◌, refl, sym, subst, ap, ap₂, ◌∙◌, inl, inr, arith, eq-eqb, ne_eqb, eqb-true}
use Rattle.std.proofs.lemmas.Bool.{cases_eq, cases_Bool, cond-true, cond-false, false≢true}
use Rattle.std.proofs.lemmas.Bool.Decides.{nat_tests}
use Rattle.pm_remy.specs.Tree.{Tree, leaf, fork, name}
use Rattle.pm_remy.specs.Growth.{beside, grafted}
use Rattle.pm_remy.specs.steps.Ungrown.{is_leaf, pruned, last_choice}
use Rattle.pm_remy.proofs.Counts.{hit, hit_tells, hit_other, hit_same, label_times, name_times, IsApart, IsBelow, apart-left, apart-right, below-left, below-right, root-stands, names-apart}
use Rattle.pm_remy.proofs.Grafts.{beside_cases, grafted-here, grafted-leaf, grafted-fork, grafted-same}

-- a tree is a leaf with the label, or it is not
pub is_leaf-absent : (k : ℕ) (t : Tree) → label_times k t ≡ 0 → is_leaf k t ≡ false
is_leaf-absent k (leaf m) h = ne_eqb m k (λ e. omega (arith, hit_same m k e))
is_leaf-absent k (fork l r) h = refl

pub leaf_from_is_leaf : (k : ℕ) (t : Tree) → is_leaf k t ≡ true → t ≡ leaf k
leaf_from_is_leaf k (leaf m) h = ap leaf (eqb-true m k h)
leaf_from_is_leaf k (fork l r) h = absurd (false≢true h)

pub pruned-left : (k : ℕ) (r : Tree) → pruned k (fork (leaf k) r) ≡ r
unfolding pruned
pruned-left k r =
    cond-true (is_leaf k (leaf k)) r (if is_leaf k r then leaf k else fork (pruned k (leaf k)) (pruned k r)) (eq-eqb k k refl)

pub pruned-right : (k : ℕ) (l : Tree) → is_leaf k l ≡ false → pruned k (fork l (leaf k)) ≡ l
unfolding pruned
pruned-right k l h =
    cond-false (is_leaf k l) (leaf k) (if is_leaf k (leaf k) then l else fork (pruned k l) (pruned k (leaf k))) h
    ∙ cond-true (is_leaf k (leaf k)) l (fork (pruned k l) (pruned k (leaf k))) (eq-eqb k k refl)

pub pruned-within : (k : ℕ) (l r : Tree) → is_leaf k l ≡ false → is_leaf k r ≡ false → pruned k (fork l r) ≡ fork (pruned k l) (pruned k r)
unfolding pruned
pruned-within k l r h i =
    cond-false (is_leaf k l) r (if is_leaf k r then l else fork (pruned k l) (pruned k r)) h
    ∙ cond-false (is_leaf k r) l (fork (pruned k l) (pruned k r)) i

pub choice-left : (k : ℕ) (r : Tree) → last_choice k (fork (leaf k) r) ≡ 2 * name r + 1
unfolding last_choice
choice-left k r =
    cond-true (is_leaf k (leaf k)) (2 * name r + 1) (if is_leaf k r then 2 * name (leaf k) else last_choice k (leaf k) + last_choice k r) (eq-eqb k k refl)

pub choice-right : (k : ℕ) (l : Tree) → is_leaf k l ≡ false → last_choice k (fork l (leaf k)) ≡ 2 * name l
unfolding last_choice
choice-right k l h =
    cond-false (is_leaf k l) (2 * name (leaf k) + 1) (if is_leaf k (leaf k) then 2 * name l else last_choice k l + last_choice k (leaf k)) h
    ∙ cond-true (is_leaf k (leaf k)) (2 * name l) (last_choice k l + last_choice k (leaf k)) (eq-eqb k k refl)

pub choice-within : (k : ℕ) (l r : Tree) → is_leaf k l ≡ false → is_leaf k r ≡ false → last_choice k (fork l r) ≡ last_choice k l + last_choice k r
unfolding last_choice
choice-within k l r h i =
    cond-false (is_leaf k l) (2 * name r + 1) (if is_leaf k r then 2 * name l else last_choice k l + last_choice k r) h
    ∙ cond-false (is_leaf k r) (2 * name l) (last_choice k l + last_choice k r) i

-- a tree without the label stays
pub pruned-same : (k : ℕ) (t : Tree) → label_times k t ≡ 0 → pruned k t ≡ t
unfolding pruned
pruned-same k (leaf m) h = refl
pruned-same k (fork l r) h =
    pruned-within k l r (is_leaf-absent k l (omega arith)) (is_leaf-absent k r (omega arith))
    ∙ ap₂ fork (pruned-same k l (omega arith)) (pruned-same k r (omega arith))

pub choice-none : (k : ℕ) (t : Tree) → label_times k t ≡ 0 → last_choice k t ≡ 0
unfolding last_choice
choice-none k (leaf m) h = refl
choice-none k (fork l r) h =
    choice-within k l r (is_leaf-absent k l (omega arith)) (is_leaf-absent k r (omega arith))
    ∙ omega (arith, choice-none k l (omega arith), choice-none k r (omega arith))

pub below-absent : (k : ℕ) (t : Tree) → IsBelow k t → label_times k t ≡ 0
below-absent k t h = h.none k (omega arith)

pruned-beside : (s k : ℕ) (t : Tree) → label_times k t ≡ 0 → pruned k (beside s k t) ≡ t
pruned-beside s k t h =
    elim (beside_cases s k t) [ inl w ↦ ap (pruned k) w.1 ∙ pruned-right k t (is_leaf-absent k t h) | inr w ↦ ap (pruned k) w.1 ∙ pruned-left k t ]

choice-beside : (s k : ℕ) (t : Tree) → s < 2 → label_times k t ≡ 0 → last_choice k (beside s k t) ≡ 2 * name t + s
choice-beside s k t q h =
    elim (beside_cases s k t) [
      | inl w ↦ ap (last_choice k) w.1 ∙ (choice-right k t (is_leaf-absent k t h) ∙ omega arith)
      | inr w ↦ ap (last_choice k) w.1 ∙ (choice-left k t ∙ omega arith)
    ]

beside-no_leaf : (s k j : ℕ) (t : Tree) → is_leaf j (beside s k t) ≡ false
beside-no_leaf s k j t = elim (beside_cases s k t) [ inl w ↦ ap (is_leaf j) w.1 | inr w ↦ ap (is_leaf j) w.1 ]

grafted-no_leaf : (a s k : ℕ) (t : Tree) → IsBelow k t → is_leaf k (grafted a s k t) ≡ false
grafted-no_leaf a s k (leaf m) h =
    elim (cases_eq (name (leaf m)) a) [
      | inl e ↦ ap (is_leaf k) (grafted-here a s k (leaf m) e) ∙ beside-no_leaf s k k (leaf m)
      | inr e ↦ ap (is_leaf k) (grafted-leaf a s k m e) ∙ is_leaf-absent k (leaf m) (below-absent k (leaf m) h)
    ]
grafted-no_leaf a s k (fork l r) h =
    elim (cases_eq (name (fork l r)) a) [
      | inl e ↦ ap (is_leaf k) (grafted-here a s k (fork l r) e) ∙ beside-no_leaf s k k (fork l r)
      | inr e ↦ ap (is_leaf k) (grafted-fork a s k l r e)
    ]

-- taking the new leaf away gives the tree back
pub pruned-grafted : (a s k : ℕ) (t : Tree) → IsBelow k t → pruned k (grafted a s k t) ≡ t
pruned-grafted a s k (leaf m) h =
    elim (cases_eq (name (leaf m)) a) [
      | inl e ↦ ap (pruned k) (grafted-here a s k (leaf m) e) ∙ pruned-beside s k (leaf m) (below-absent k (leaf m) h)
      | inr e ↦ ap (pruned k) (grafted-leaf a s k m e) ∙ pruned-same k (leaf m) (below-absent k (leaf m) h)
    ]
pruned-grafted a s k (fork l r) h =
    elim (cases_eq (name (fork l r)) a) [
      | inl e ↦ ap (pruned k) (grafted-here a s k (fork l r) e) ∙ pruned-beside s k (fork l r) (below-absent k (fork l r) h)
      | inr e ↦ ap (pruned k) (grafted-fork a s k l r e)
          ∙ (pruned-within k (grafted a s k l) (grafted a s k r) (grafted-no_leaf a s k l (below-left k l r h)) (grafted-no_leaf a s k r (below-right k l r h))
          ∙ ap₂ fork (pruned-grafted a s k l (below-left k l r h)) (pruned-grafted a s k r (below-right k l r h)))
    ]

-- and the place of the new leaf tells the choice
pub choice-grafted : (a s k : ℕ) (t : Tree) → s < 2 → IsBelow k t → name_times a t ≡ 1 → last_choice k (grafted a s k t) ≡ 2 * a + s
choice-grafted a s k (leaf m) q h w =
    elim (cases_eq (name (leaf m)) a) [
      | inl e ↦ ap (last_choice k) (grafted-here a s k (leaf m) e) ∙ (choice-beside s k (leaf m) q (below-absent k (leaf m) h) ∙ omega arith)
      | inr e ↦ absurd (omega (arith, hit_other (2 * m) a e))
    ]
choice-grafted a s k (fork l r) q h w =
    elim (cases_eq (name (fork l r)) a) [
      | inl e ↦ ap (last_choice k) (grafted-here a s k (fork l r) e) ∙ (choice-beside s k (fork l r) q (below-absent k (fork l r) h) ∙ ap (λ (x : ℕ). 2 * x + s) e)
      | inr e ↦ ap (last_choice k) (grafted-fork a s k l r e)
          ∙ (choice-within k (grafted a s k l) (grafted a s k r) (grafted-no_leaf a s k l (below-left k l r h)) (grafted-no_leaf a s k r (below-right k l r h))
          ∙ elim (cases_eq (name_times a l) 1) [
            | inl x ↦ let other = ap (last_choice k) (grafted-same a s k r (omega arith)) in
                omega (arith, choice-grafted a s k l q (below-left k l r h) x, other, choice-none k r (below-absent k r (below-right k l r h)))
            | inr x ↦ let here : name_times a r ≡ 1 = omega (arith, hit_other (name (fork l r)) a e) in
                let other = ap (last_choice k) (grafted-same a s k l (omega (arith, hit_other (name (fork l r)) a e))) in
                omega (arith, choice-grafted a s k r q (below-right k l r h) here, other, choice-none k l (below-absent k l (below-left k l r h)))
          ])
    ]

-- a side that is the leaf with the label
pub side_cases : (k : ℕ) (l r : Tree) → ((l ≡ leaf k) ⊎ ((is_leaf k l ≡ false) × (r ≡ leaf k))) ⊎ ((is_leaf k l ≡ false) × (is_leaf k r ≡ false))
side_cases k l r =
    elim (cases_Bool (is_leaf k l)) [
      | inl e ↦ inl (inl (leaf_from_is_leaf k l e))
      | inr e ↦ elim (cases_Bool (is_leaf k r)) [ inl f ↦ inl (inr (e, leaf_from_is_leaf k r f)) | inr f ↦ inr (e, f) ]
    ]

hit_absent : (j k : ℕ) → is_leaf k (leaf j) ≡ false → hit j k ≡ 1 → ⊥
hit_absent j k e h = grind (arith, hit_tells, nat_tests)

-- the label is the one that goes from the labels
pub pruned-labels : (k m : ℕ) (t : Tree) → is_leaf k t ≡ false → label_times k t ≡ 1 → label_times m (pruned k t) + hit k m ≡ label_times m t
pruned-labels k m (leaf j) e h = absurd (hit_absent j k e h)
pruned-labels k m (fork l r) e h =
    elim (side_cases k l r) [
      | inl w ↦ elim w [
        | inl x ↦ subst (λ (y : Tree). label_times m (pruned k (fork y r)) + hit k m ≡ label_times m (fork y r)) (sym x) (omega (arith, ap (label_times m) (pruned-left k r)))
        | inr x ↦ subst (λ (y : Tree). label_times m (pruned k (fork l y)) + hit k m ≡ label_times m (fork l y)) (sym x.1) (omega (arith, ap (label_times m) (pruned-right k l x.0)))
      ]
      | inr w ↦ let whole = ap (label_times m) (pruned-within k l r w.0 w.1) in
          elim (cases_eq (label_times k l) 1) [
            | inl x ↦ omega (arith, whole, pruned-labels k m l w.0 x, ap (label_times m) (pruned-same k r (omega arith)))
            | inr x ↦ omega (arith, whole, pruned-labels k m r w.1 (omega arith), ap (label_times m) (pruned-same k l (omega arith)))
          ]
    ]

-- the leaf of the label stands beside the node of the choice's name
pub record Regrafts (k : ℕ) (t : Tree) (a s : ℕ) : Type 0 where
  pub side : s < 2
  pub choice : last_choice k t ≡ 2 * a + s
  pub stands : name_times a (pruned k t) ≡ 1
  pub regrows : grafted a s k (pruned k t) ≡ t

pub apart-pruned : (k : ℕ) (t : Tree) → is_leaf k t ≡ false → label_times k t ≡ 1 → IsApart t → IsApart (pruned k t)
apart-pruned k t e h w = record { once = λ m. omega (arith, pruned-labels k m t e h, w.once m) }

root-once : (t : Tree) → IsApart t → name_times (name t) t ≡ 1
root-once t w = omega (arith, root-stands t, names-apart t w (name t))

regrafts-left : (k : ℕ) (r : Tree) → IsApart (fork (leaf k) r) → Regrafts k (fork (leaf k) r) (name r) 1
regrafts-left k r w =
    record {
      side = omega arith;
      choice = choice-left k r;
      stands = rw (pruned-left k r) (root-once r (apart-right (leaf k) r w));
      regrows = ap (grafted (name r) 1 k) (pruned-left k r)
          ∙ (grafted-here (name r) 1 k r refl
          ∙ elim (beside_cases 1 k r) [ inl x ↦ absurd (omega (arith, x.0)) | inr x ↦ x.1 ]);
    }

regrafts-right : (k : ℕ) (l : Tree) → is_leaf k l ≡ false → IsApart (fork l (leaf k)) → Regrafts k (fork l (leaf k)) (name l) 0
regrafts-right k l e w =
    record {
      side = omega arith;
      choice = choice-right k l e ∙ omega arith;
      stands = rw (pruned-right k l e) (root-once l (apart-left l (leaf k) w));
      regrows = ap (grafted (name l) 0 k) (pruned-right k l e)
          ∙ (grafted-here (name l) 0 k l refl
          ∙ elim (beside_cases 0 k l) [ inl x ↦ x.1 | inr x ↦ absurd (x.0 refl) ]);
    }

-- a leaf within the left side
regrafts-deep_left : (k a s : ℕ) (l r : Tree) → is_leaf k l ≡ false → is_leaf k r ≡ false → label_times k (fork l r) ≡ 1 → label_times k r ≡ 0
    → IsApart (fork l r) → Regrafts k l a s → Regrafts k (fork l r) a s
regrafts-deep_left k a s l r e f h i w g =
    let whole : pruned k (fork l r) ≡ fork (pruned k l) r = pruned-within k l r e f ∙ ap (fork (pruned k l)) (pruned-same k r i) in
    let once : name_times a (fork (pruned k l) r) ≤ 1 = subst (λ (y : Tree). name_times a y ≤ 1) whole (names-apart (pruned k (fork l r)) (apart-pruned k (fork l r) refl h w) a) in
    let stands = g.stands in
    let other : name (fork (pruned k l) r) ≢ a = λ x. omega (arith, hit_same (name (fork (pruned k l) r)) a x) in
    let absent : name_times a r ≡ 0 = omega arith in
    record {
      side = g.side;
      choice = choice-within k l r e f ∙ omega (arith, g.choice, choice-none k r i);
      stands = rw whole (omega (arith, hit_other (name (fork (pruned k l) r)) a other));
      regrows = ap (grafted a s k) whole ∙ (grafted-fork a s k (pruned k l) r other ∙ ap₂ fork g.regrows (grafted-same a s k r absent));
    }

regrafts-deep_right : (k a s : ℕ) (l r : Tree) → is_leaf k l ≡ false → is_leaf k r ≡ false → label_times k (fork l r) ≡ 1 → label_times k l ≡ 0
    → IsApart (fork l r) → Regrafts k r a s → Regrafts k (fork l r) a s
regrafts-deep_right k a s l r e f h i w g =
    let whole : pruned k (fork l r) ≡ fork l (pruned k r) = pruned-within k l r e f ∙ ap (λ (y : Tree). fork y (pruned k r)) (pruned-same k l i) in
    let once : name_times a (fork l (pruned k r)) ≤ 1 = subst (λ (y : Tree). name_times a y ≤ 1) whole (names-apart (pruned k (fork l r)) (apart-pruned k (fork l r) refl h w) a) in
    let stands = g.stands in
    let other : name (fork l (pruned k r)) ≢ a = λ x. omega (arith, hit_same (name (fork l (pruned k r))) a x) in
    let absent : name_times a l ≡ 0 = omega arith in
    record {
      side = g.side;
      choice = choice-within k l r e f ∙ omega (arith, g.choice, choice-none k l i);
      stands = rw whole (omega (arith, hit_other (name (fork l (pruned k r))) a other));
      regrows = ap (grafted a s k) whole ∙ (grafted-fork a s k l (pruned k r) other ∙ ap₂ fork (grafted-same a s k l absent) g.regrows);
    }

-- putting the leaf back gives the tree
pub regrafts : (k : ℕ) (t : Tree) → is_leaf k t ≡ false → label_times k t ≡ 1 → IsApart t → (a : ℕ) × ((s : ℕ) × Regrafts k t a s)
regrafts k (leaf m) e h w = absurd (hit_absent m k e h)
regrafts k (fork l r) e h w =
    elim (side_cases k l r) [
      | inl c ↦ elim c [
        | inl x ↦ subst (λ (y : Tree). IsApart (fork y r) → (a : ℕ) × ((s : ℕ) × Regrafts k (fork y r) a s)) (sym x) (λ v. (name r, (1, regrafts-left k r v))) w
        | inr x ↦ subst (λ (y : Tree). IsApart (fork l y) → (a : ℕ) × ((s : ℕ) × Regrafts k (fork l y) a s)) (sym x.1) (λ v. (name l, (0, regrafts-right k l x.0 v))) w
      ]
      | inr c ↦ elim (cases_eq (label_times k l) 1) [
        | inl x ↦ let g = regrafts k l c.0 x (apart-left l r w) in
            (g.0, (g.1.0, regrafts-deep_left k g.0 g.1.0 l r c.0 c.1 h (omega arith) w g.1.1))
        | inr x ↦ let g = regrafts k r c.1 (omega arith) (apart-right l r w) in
            (g.0, (g.1.0, regrafts-deep_right k g.0 g.1.0 l r c.0 c.1 h (omega arith) w g.1.1))
      ]
    ]
