-- The laws of growth: a grown tree has each label and each name once, and each labelled tree is grown by one list.
use Rattle.std.proofs.Common.{◌≡◌, ℕ, zero, suc, ◌/◌, ◌%◌, ◌<◌, ◌≤◌, false, List, [], ◌∷◌, ◌++◌, length, take, slice_index, refl, sym, subst, ap, ap₂, ◌∙◌, inl, inr, arith, take-suc, take_all}
use Rattle.std.proofs.lemmas.Bool.{cases_eq, cases_order, cases_Bool}
use Rattle.pm_remy.specs.Tree.{Tree, leaf}
use Rattle.pm_remy.specs.Growth.{grafted, grown_by, grown, IsChoices}
use Rattle.pm_remy.specs.steps.Ungrown.{is_leaf, pruned, last_choice, ungrown}
use Rattle.pm_remy.proofs.Counts.{hit_other, hit_same, label_times, name_times, IsCounted, names-once, below_counted, apart_counted}
use Rattle.pm_remy.proofs.Grafts.{grafted-labels}
use Rattle.pm_remy.proofs.Prunes.{leaf_from_is_leaf, pruned-grafted, choice-grafted, pruned-labels, Regrafts, regrafts}

pub grown_by-zero : (cs : List ℕ) → grown_by cs 0 ≡ leaf 0
unfolding grown_by
grown_by-zero cs = refl

pub grown_by-suc : (cs : List ℕ) (k : ℕ) → grown_by cs (suc k) ≡ grafted (slice_index cs k / 2) (slice_index cs k % 2) (suc k) (grown_by cs k)
unfolding grown_by
grown_by-suc cs k = refl

pub counted-leaf : IsCounted 1 (leaf 0)
counted-leaf = record { once = λ m q. hit_same 0 m (omega arith); none = λ m q. hit_other 0 m (omega arith) }

-- a new leaf brings the next label
pub counted-grafted : (k a s : ℕ) (t : Tree) → IsCounted k t → name_times a t ≡ 1 → IsCounted (suc k) (grafted a s k t)
counted-grafted k a s t h w =
    record {
      once = λ m q. grafted-labels a s k m t w ∙ elim (cases_eq k m) [ inl e ↦ omega (arith, hit_same k m e, h.none m (omega arith)) | inr e ↦ omega (arith, hit_other k m e, h.once m (omega arith)) ];
      none = λ m q. grafted-labels a s k m t w ∙ omega (arith, hit_other k m (omega arith), h.none m (omega arith));
    }

-- a tree with more than one leaf is no leaf with the greatest label
pub counted-no_leaf : (k : ℕ) (t : Tree) → 0 < k → IsCounted (suc k) t → is_leaf k t ≡ false
counted-no_leaf k t q h =
    elim (cases_Bool (is_leaf k t)) [ inl e ↦ absurd (omega (arith, h.once 0 (omega arith), ap (label_times 0) (leaf_from_is_leaf k t e), hit_other k 0 (omega arith))) | inr e ↦ e ]

-- without the greatest label the others stay
pub counted-pruned : (k : ℕ) (t : Tree) → 0 < k → IsCounted (suc k) t → IsCounted k (pruned k t)
counted-pruned k t q h =
    let part = λ (m : ℕ). pruned-labels k m t (counted-no_leaf k t q h) (h.once k (omega arith)) in
    record {
      once = λ m i. omega (arith, part m, hit_other k m (omega arith), h.once m (omega arith));
      none = λ m i. elim (cases_eq k m) [ inl e ↦ omega (arith, part m, hit_same k m e, h.once m (omega arith)) | inr e ↦ omega (arith, part m, h.none m (omega arith)) ];
    }

pub counted-regrafts : (k : ℕ) (t : Tree) → 0 < k → IsCounted (suc k) t → (a : ℕ) × ((s : ℕ) × Regrafts k t a s)
counted-regrafts k t q h = regrafts k t (counted-no_leaf k t q h) (h.once k (omega arith)) (apart_counted (suc k) t h)

-- the size is told by the labels
pub counted-size : (j k : ℕ) (t : Tree) → IsCounted j t → IsCounted k t → j ≡ k
counted-size j k t g h =
    elim (cases_order j k) [
      | inl e ↦ e
      | inr e ↦ elim e [ inl q ↦ absurd (omega (arith, g.none j (omega arith), h.once j q)) | inr q ↦ absurd (omega (arith, h.none k (omega arith), g.once k q)) ]
    ]

-- a choice names a node of the tree so far
pub choice-stands : (cs : List ℕ) (k : ℕ) (t : Tree) → IsChoices cs → k < length cs → IsCounted (suc k) t → name_times (slice_index cs k / 2) t ≡ 1
choice-stands cs k t h q w = names-once (suc k) t w (slice_index cs k / 2) (omega (arith, h k q))

-- the tree that the first k choices grow has the labels 0 to k, each once
pub counted-grown_by : (cs : List ℕ) (k : ℕ) → IsChoices cs → k ≤ length cs → IsCounted (suc k) (grown_by cs k)
counted-grown_by cs zero h q = subst (λ (t : Tree). IsCounted 1 t) (sym (grown_by-zero cs)) counted-leaf
counted-grown_by cs (suc k) h q =
    let before = counted-grown_by cs k h (omega arith) in
    subst (λ (t : Tree). IsCounted (suc (suc k)) t) (sym (grown_by-suc cs k))
    (counted-grafted (suc k) (slice_index cs k / 2) (slice_index cs k % 2) (grown_by cs k) before (choice-stands cs k (grown_by cs k) h (omega arith) before))

pub counted-grown : (cs : List ℕ) → IsChoices cs → IsCounted (suc (length cs)) (grown cs)
counted-grown cs h = counted-grown_by cs (length cs) h (omega arith)

-- taking the greatest label away is one step back
pub pruned-grown_by : (cs : List ℕ) (k : ℕ) → IsChoices cs → k < length cs → pruned (suc k) (grown_by cs (suc k)) ≡ grown_by cs k
pruned-grown_by cs k h q =
    ap (pruned (suc k)) (grown_by-suc cs k)
    ∙ pruned-grafted (slice_index cs k / 2) (slice_index cs k % 2) (suc k) (grown_by cs k) (below_counted (suc k) (grown_by cs k) (counted-grown_by cs k h (omega arith)))

pub choice-grown_by : (cs : List ℕ) (k : ℕ) → IsChoices cs → k < length cs → last_choice (suc k) (grown_by cs (suc k)) ≡ slice_index cs k
choice-grown_by cs k h q =
    let before = counted-grown_by cs k h (omega arith) in
    ap (last_choice (suc k)) (grown_by-suc cs k)
    ∙ (choice-grafted (slice_index cs k / 2) (slice_index cs k % 2) (suc k) (grown_by cs k) (omega arith) (below_counted (suc k) (grown_by cs k) before)
    (choice-stands cs k (grown_by cs k) h q before)
    ∙ omega arith)

ungrown-grown_by : (cs : List ℕ) (k : ℕ) → IsChoices cs → k ≤ length cs → ungrown k (grown_by cs k) ≡ take k cs
unfolding ungrown
ungrown-grown_by cs zero h q = refl
ungrown-grown_by cs (suc k) h q =
    ap₂ (λ (t : Tree) (c : ℕ). ungrown k t ++ c ∷ []) (pruned-grown_by cs k h q) (choice-grown_by cs k h q)
    ∙ (ap (λ (xs : List ℕ). xs ++ slice_index cs k ∷ []) (ungrown-grown_by cs k h (omega arith)) ∙ sym (take-suc cs k 0 q))

-- the choices are read back from the tree that they grow
pub ungrown-grown : (cs : List ℕ) → IsChoices cs → ungrown (length cs) (grown cs) ≡ cs
ungrown-grown cs h = ungrown-grown_by cs (length cs) h (omega arith) ∙ take_all (length cs) cs (omega arith)

-- one tree is grown by one list of choices
pub grown-injective : (cs ds : List ℕ) → IsChoices cs → IsChoices ds → grown cs ≡ grown ds → cs ≡ ds
grown-injective cs ds h g e =
    let sizes = counted-size (suc (length cs)) (suc (length ds)) (grown ds) (subst (λ (t : Tree). IsCounted (suc (length cs)) t) e (counted-grown cs h)) (counted-grown ds g) in
    let lengths : length cs ≡ length ds = omega arith in
    sym (ungrown-grown cs h) ∙ (ap₂ ungrown lengths e ∙ ungrown-grown ds g)
