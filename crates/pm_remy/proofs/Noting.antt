-- The choices that the forks of a tree tell are those that grow it.
use Rattle.std.proofs.Common.{◌≡◌, ℕ, zero, suc, ◌+◌, ◌-◌, ◌*◌, ◌/◌, ◌%◌, ◌<◌, ◌≤◌, max, ltb, if◌then◌else◌, List, length, slice_index, refl, sym, subst, ap, ◌∙◌, inl, inr, arith, ext_get_or}
use Rattle.std.proofs.lemmas.Bool.{cases_lt, cases_eq, cond-true, cond-false, lt-ltb, le-ltb}
use Rattle.pm_perm.specs.Permutation.{IsPermutationList}
use Rattle.pm_remy.specs.Tree.{Tree, leaf, fork, least, name, labels_of, leaves}
use Rattle.pm_remy.specs.Growth.{beside, grafted, grown_by, IsChoices, IsGrowth}
use Rattle.pm_remy.specs.steps.Ungrown.{ungrown}
use Rattle.pm_remy.specs.steps.Noted.{root_upto, fork_choice, AreNoted}
use Rattle.pm_remy.proofs.Counts.{hit_other, name_times, IsBelow, below-left, below-right, below_counted, least-below}
use Rattle.pm_remy.proofs.Grafts.{beside_cases, grafted-here, grafted-leaf, grafted-fork, grafted-least}
use Rattle.pm_remy.proofs.Grown.{grown_by-suc, choice-stands, counted-grown_by}
use Rattle.pm_remy.proofs.Ungrown.{growth-ungrown, length-ungrown}

-- where the root node stands, and in which side else
pub root-kept : (j : ℕ) (l r : Tree) → max (least l) (least r) ≤ j → root_upto j (fork l r) ≡ name (fork l r)
unfolding root_upto
root-kept j l r h =
    cond-false (ltb j (max (least l) (least r))) (if ltb (least l) (least r) then root_upto j l else root_upto j r) (name (fork l r)) (le-ltb j (max (least l) (least r)) h)

pub root-left : (j : ℕ) (l r : Tree) → j < max (least l) (least r) → least l < least r → root_upto j (fork l r) ≡ root_upto j l
unfolding root_upto
root-left j l r h q =
    cond-true (ltb j (max (least l) (least r))) (if ltb (least l) (least r) then root_upto j l else root_upto j r) (name (fork l r)) (lt-ltb j (max (least l) (least r)) h)
    ∙ cond-true (ltb (least l) (least r)) (root_upto j l) (root_upto j r) (lt-ltb (least l) (least r) q)

pub root-right : (j : ℕ) (l r : Tree) → j < max (least l) (least r) → least r ≤ least l → root_upto j (fork l r) ≡ root_upto j r
unfolding root_upto
root-right j l r h q =
    cond-true (ltb j (max (least l) (least r))) (if ltb (least l) (least r) then root_upto j l else root_upto j r) (name (fork l r)) (lt-ltb j (max (least l) (least r)) h)
    ∙ cond-false (ltb (least l) (least r)) (root_upto j l) (root_upto j r) (le-ltb (least l) (least r) q)

pub root-leaf : (j m : ℕ) → root_upto j (leaf m) ≡ 2 * m
unfolding root_upto
root-leaf j m = refl

pub choice-left : (l r : Tree) → least l < least r → fork_choice l r ≡ 2 * root_upto (least r) l
unfolding fork_choice
choice-left l r q = cond-true (ltb (least l) (least r)) (2 * root_upto (least r) l) (suc (2 * root_upto (least l) r)) (lt-ltb (least l) (least r) q)

pub choice-right : (l r : Tree) → least r ≤ least l → fork_choice l r ≡ suc (2 * root_upto (least l) r)
unfolding fork_choice
choice-right l r q = cond-false (ltb (least l) (least r)) (2 * root_upto (least r) l) (suc (2 * root_upto (least l) r)) (le-ltb (least l) (least r) q)

-- a new leaf with a greater label changes no such root node
upto-beside : (s k j : ℕ) (t : Tree) → IsBelow k t → j < k → root_upto j (beside s k t) ≡ root_upto j t
upto-beside s k j t h q =
    let low = least-below k t h in
    elim (beside_cases s k t) [
      | inl w ↦ ap (root_upto j) w.1 ∙ root-left j t (leaf k) (omega arith) low
      | inr w ↦ ap (root_upto j) w.1 ∙ root-right j (leaf k) t (omega arith) (omega arith)
    ]

upto-sides : (j : ℕ) (l r m n : Tree) → least m ≡ least l → least n ≡ least r → root_upto j m ≡ root_upto j l → root_upto j n ≡ root_upto j r
    → root_upto j (fork m n) ≡ root_upto j (fork l r)
upto-sides j l r m n el er ul ur =
    elim (cases_lt j (max (least l) (least r))) [
      | inl q ↦ elim (cases_lt (least l) (least r)) [
        | inl i ↦ root-left j m n (omega (arith, el, er)) (omega (arith, el, er)) ∙ (ul ∙ sym (root-left j l r q i))
        | inr i ↦ root-right j m n (omega (arith, el, er)) (omega (arith, el, er)) ∙ (ur ∙ sym (root-right j l r q i))
      ]
      | inr q ↦ let same : name (fork m n) ≡ name (fork l r) = omega (arith, el, er) in
          root-kept j m n (omega (arith, el, er)) ∙ (same ∙ sym (root-kept j l r q))
    ]

upto-grafted : (a s k j : ℕ) (t : Tree) → IsBelow k t → j < k → root_upto j (grafted a s k t) ≡ root_upto j t
upto-grafted a s k j (leaf m) h q =
    elim (cases_eq (name (leaf m)) a) [
      | inl e ↦ ap (root_upto j) (grafted-here a s k (leaf m) e) ∙ upto-beside s k j (leaf m) h q
      | inr e ↦ ap (root_upto j) (grafted-leaf a s k m e)
    ]
upto-grafted a s k j (fork l r) h q =
    let left = below-left k l r h in
    let right = below-right k l r h in
    elim (cases_eq (name (fork l r)) a) [
      | inl e ↦ ap (root_upto j) (grafted-here a s k (fork l r) e) ∙ upto-beside s k j (fork l r) h q
      | inr e ↦ ap (root_upto j) (grafted-fork a s k l r e)
          ∙ upto-sides j l r (grafted a s k l) (grafted a s k r) (grafted-least a s k l left) (grafted-least a s k r right) (upto-grafted a s k j l left q) (upto-grafted a s k j r right q)
    ]

-- nor the choice of a fork
choice-sides : (a s k : ℕ) (l r : Tree) → IsBelow k l → IsBelow k r → fork_choice (grafted a s k l) (grafted a s k r) ≡ fork_choice l r
choice-sides a s k l r left right =
    let el = grafted-least a s k l left in
    let er = grafted-least a s k r right in
    elim (cases_lt (least l) (least r)) [
      | inl i ↦ choice-left (grafted a s k l) (grafted a s k r) (omega (arith, el, er))
          ∙ (ap (λ (x : ℕ). 2 * root_upto x (grafted a s k l)) er
          ∙ (ap (λ (x : ℕ). 2 * x) (upto-grafted a s k (least r) l left (least-below k r right)) ∙ sym (choice-left l r i)))
      | inr i ↦ choice-right (grafted a s k l) (grafted a s k r) (omega (arith, el, er))
          ∙ (ap (λ (x : ℕ). suc (2 * root_upto x (grafted a s k r))) el
          ∙ (ap (λ (x : ℕ). suc (2 * x)) (upto-grafted a s k (least l) r right (least-below k l left)) ∙ sym (choice-right l r i)))
    ]

-- so what is noted of a tree with the new leaf is noted of the tree without it
noted-beside : (f : ℕ → ℕ) (s k : ℕ) (t : Tree) → AreNoted f (beside s k t) → AreNoted f t
noted-beside f s k t h =
    elim (beside_cases s k t) [
      | inl w ↦ (subst (λ (u : Tree). AreNoted f u) w.1 h).1
      | inr w ↦ (subst (λ (u : Tree). AreNoted f u) w.1 h).2
    ]

noted-before : (f : ℕ → ℕ) (a s k : ℕ) (t : Tree) → IsBelow k t → AreNoted f (grafted a s k t) → AreNoted f t
noted-before f a s k (leaf m) h noted = tt
noted-before f a s k (fork l r) h noted =
    let left = below-left k l r h in
    let right = below-right k l r h in
    elim (cases_eq (name (fork l r)) a) [
      | inl e ↦ noted-beside f s k (fork l r) (subst (λ (u : Tree). AreNoted f u) (grafted-here a s k (fork l r) e) noted)
      | inr e ↦ let all = subst (λ (u : Tree). AreNoted f u) (grafted-fork a s k l r e) noted in
          let same : max (least l) (least r) - 1 ≡ max (least (grafted a s k l)) (least (grafted a s k r)) - 1 = omega (arith, grafted-least a s k l left, grafted-least a s k r right) in
          (ap f same ∙ (all.0 ∙ choice-sides a s k l r left right), noted-before f a s k l left all.1, noted-before f a s k r right all.2)
    ]

-- and the new fork tells the choice
upto-all : (k : ℕ) (t : Tree) → IsBelow k t → root_upto k t ≡ name t
upto-all k (leaf m) h = root-leaf k m
upto-all k (fork l r) h = root-kept k l r (omega (arith, least-below k l (below-left k l r h), least-below k r (below-right k l r h)))

told-beside : (f : ℕ → ℕ) (s k : ℕ) (t : Tree) → IsBelow k t → s < 2 → AreNoted f (beside s k t) → f (k - 1) ≡ 2 * name t + s
told-beside f s k t h q noted =
    let low = least-below k t h in
    elim (beside_cases s k t) [
      | inl w ↦ let all = subst (λ (u : Tree). AreNoted f u) w.1 noted in
          let at : k - 1 ≡ max (least t) k - 1 = omega arith in
          ap f at ∙ (all.0 ∙ (choice-left t (leaf k) low ∙ (ap (λ (x : ℕ). 2 * x) (upto-all k t h) ∙ omega (arith, w.0))))
      | inr w ↦ let all = subst (λ (u : Tree). AreNoted f u) w.1 noted in
          let at : k - 1 ≡ max k (least t) - 1 = omega arith in
          ap f at ∙ (all.0 ∙ (choice-right (leaf k) t (omega arith) ∙ (ap (λ (x : ℕ). suc (2 * x)) (upto-all k t h) ∙ omega (arith, w.0))))
    ]

told : (f : ℕ → ℕ) (a s k : ℕ) (t : Tree) → IsBelow k t → s < 2 → 1 ≤ name_times a t → AreNoted f (grafted a s k t) → f (k - 1) ≡ 2 * a + s
told f a s k (leaf m) h q stands noted =
    elim (cases_eq (name (leaf m)) a) [
      | inl e ↦ told-beside f s k (leaf m) h q (subst (λ (u : Tree). AreNoted f u) (grafted-here a s k (leaf m) e) noted) ∙ ap (λ (x : ℕ). 2 * x + s) e
      | inr e ↦ absurd (omega (arith, hit_other (2 * m) a e))
    ]
told f a s k (fork l r) h q stands noted =
    elim (cases_eq (name (fork l r)) a) [
      | inl e ↦ told-beside f s k (fork l r) h q (subst (λ (u : Tree). AreNoted f u) (grafted-here a s k (fork l r) e) noted) ∙ ap (λ (x : ℕ). 2 * x + s) e
      | inr e ↦ let all = subst (λ (u : Tree). AreNoted f u) (grafted-fork a s k l r e) noted in
          elim (cases_lt 0 (name_times a l)) [
            | inl x ↦ told f a s k l (below-left k l r h) q x all.1
            | inr x ↦ told f a s k r (below-right k l r h) q (omega (arith, hit_other (name (fork l r)) a e)) all.2
          ]
    ]

-- what a grown tree tells are the choices that grew it
told-grown : (f : ℕ → ℕ) (cs : List ℕ) (k : ℕ) → IsChoices cs → k ≤ length cs → AreNoted f (grown_by cs k) → (j : ℕ) → j < k → f j ≡ slice_index cs j
told-grown f cs zero h q noted j i = absurd (omega arith)
told-grown f cs (suc k) h q noted j i =
    let t = grown_by cs k in
    let c = slice_index cs k in
    let counted = counted-grown_by cs k h (omega arith) in
    let below = below_counted (suc k) t counted in
    let stands = choice-stands cs k t h (omega arith) counted in
    let last = subst (λ (u : Tree). AreNoted f u) (grown_by-suc cs k) noted in
    elim (cases_lt j k) [
      | inl x ↦ told-grown f cs k h (omega arith) (noted-before f (c / 2) (c % 2) (suc k) t below last) j x
      | inr x ↦ let here : j ≡ k = omega arith in
          let at : j ≡ suc k - 1 = omega arith in
          let whole : 2 * (c / 2) + c % 2 ≡ c = omega arith in
          ap f at ∙ (told f (c / 2) (c % 2) (suc k) t below (omega arith) (omega (arith, stands)) last ∙ (whole ∙ ap (slice_index cs) (sym here)))
    ]

-- a list in which the choices of a labelled tree are noted is the one that grows it
pub growth-noted : (choices : List ℕ) (t : Tree) → leaves t ≡ suc (length choices) → IsPermutationList (labels_of t) → AreNoted (slice_index choices) t → IsGrowth choices t
growth-noted choices t e once noted =
    let k = length choices in
    let cs = ungrown k t in
    let g = growth-ungrown k t e once in
    let long = length-ungrown k t in
    let all = subst (λ (u : Tree). AreNoted (slice_index choices) u) (sym g.grows) noted in
    let same : choices ≡ cs = ext_get_or 0 choices cs (sym long) (λ j q. told-grown (slice_index choices) cs (length cs) g.valid (omega arith) all j (omega arith)) in
    subst (λ (xs : List ℕ). IsGrowth xs t) (sym same) g
