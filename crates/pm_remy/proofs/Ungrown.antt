-- Each labelled tree is grown by the choices that are read from it.
use Rattle.std.proofs.Common.{◌≡◌, ℕ, zero, suc, ◌+◌, ◌*◌, ◌/◌, ◌%◌, ◌<◌, ◌≤◌, List, [], ◌∷◌, ◌++◌, length, slice_index, refl, sym, subst, ap, ap₂, ◌∙◌, inl, inr, arith}
use Rattle.std.proofs.lemmas.Bool.{cases_lt}
use Rattle.std.proofs.lemmas.List.{get_or_append_left, get_or_push, length_push}
use Rattle.pm_perm.specs.Permutation.{IsPermutationList}
use Rattle.pm_remy.specs.Tree.{Tree, leaf, fork, least, labels_of, leaves, names}
use Rattle.pm_remy.specs.Growth.{grafted, grown_by, grown, IsChoices, IsGrowth}
use Rattle.pm_remy.specs.steps.Ungrown.{pruned, last_choice, ungrown}
use Rattle.pm_remy.proofs.Counts.{label_times, least-stands, IsCounted, least-below, below_counted, below-left, below-right, names-none}
use Rattle.pm_remy.proofs.Grown.{counted-grown, grown_by-zero, grown_by-suc, counted-pruned, counted-regrafts, grown-injective}
use Rattle.pm_remy.proofs.Once.{counted-labels, counted-leaves, labels-counted, length-names, names-counted}
use Rattle.pm_remy.proofs.Prunes.{Regrafts}

pub length-ungrown : (k : ℕ) (t : Tree) → length (ungrown k t) ≡ k
unfolding ungrown
length-ungrown zero t = refl
length-ungrown (suc k) t = length_push (ungrown k (pruned (suc k) t)) (last_choice (suc k) t) ∙ omega (arith, length-ungrown k (pruned (suc k) t))

grown_by-prefix : (xs ys : List ℕ) (k : ℕ) → k ≤ length xs → grown_by (xs ++ ys) k ≡ grown_by xs k
grown_by-prefix xs ys zero q = grown_by-zero (xs ++ ys) ∙ sym (grown_by-zero xs)
grown_by-prefix xs ys (suc k) q =
    let same : slice_index (xs ++ ys) k ≡ slice_index xs k = get_or_append_left xs ys 0 k (omega arith) in
    grown_by-suc (xs ++ ys) k
    ∙ (ap₂ (λ (x : ℕ) (t : Tree). grafted (x / 2) (x % 2) (suc k) t) same (grown_by-prefix xs ys k (omega arith)) ∙ sym (grown_by-suc xs k))

-- a tree with the one label 0 is the leaf 0
counted-one : (t : Tree) → IsCounted 1 t → t ≡ leaf 0
counted-one (leaf m) h =
    let low = least-below 1 (leaf m) (below_counted 1 (leaf m) h) in ap leaf (omega arith)
counted-one (fork l r) h =
    let below = below_counted 1 (fork l r) h in
    let left : least l ≡ 0 = omega (arith, least-below 1 l (below-left 1 l r below)) in
    let right : least r ≡ 0 = omega (arith, least-below 1 r (below-right 1 l r below)) in
    absurd (omega (arith, h.once 0 (omega arith), subst (λ (m : ℕ). 1 ≤ label_times m l) left (least-stands l), subst (λ (m : ℕ). 1 ≤ label_times m r) right (least-stands r)))

record Regrows (k : ℕ) (t : Tree) (cs : List ℕ) : Type 0 where
  valid : (j : ℕ) → j < k → slice_index cs j < 2 * (2 * j + 1)
  grows : grown_by cs k ≡ t

-- one more choice
regrows-more : (k c a s : ℕ) (t : Tree) (xs : List ℕ) → length xs ≡ k → IsCounted (suc k) (pruned (suc k) t) → Regrafts (suc k) t a s → c ≡ 2 * a + s
    → Regrows k (pruned (suc k) t) xs → Regrows (suc k) t (xs ++ c ∷ [])
regrows-more k c a s t xs e counted g is rest =
    let last : slice_index (xs ++ c ∷ []) k ≡ c = get_or_push xs c 0 k e in
    let side = g.side in
    let stands = g.stands in
    let low : a < 2 * k + 1 = elim (cases_lt a (2 * k + 1)) [ inl q ↦ q | inr q ↦ absurd (omega (arith, names-none (suc k) (pruned (suc k) t) counted a (omega arith))) ] in
    let half : slice_index (xs ++ c ∷ []) k / 2 ≡ a = omega arith in
    let rem : slice_index (xs ++ c ∷ []) k % 2 ≡ s = omega arith in
    record {
      valid = λ j q. elim (cases_lt j k) [
        | inl i ↦ omega (arith, get_or_append_left xs (c ∷ []) 0 j (omega arith), rest.valid j i)
        | inr i ↦ let here : j ≡ k = omega arith in subst (λ (x : ℕ). slice_index (xs ++ c ∷ []) x < 2 * (2 * x + 1)) (sym here) (omega arith)
      ];
      grows = grown_by-suc (xs ++ c ∷ []) k
          ∙ (ap₂ (λ (x y : ℕ). grafted x y (suc k) (grown_by (xs ++ c ∷ []) k)) half rem
          ∙ (ap (grafted a s (suc k)) (grown_by-prefix xs (c ∷ []) k (omega arith) ∙ rest.grows) ∙ g.regrows));
    }

regrows : (k : ℕ) (t : Tree) → IsCounted (suc k) t → Regrows k t (ungrown k t)
unfolding ungrown
regrows zero t h = record { valid = λ j q. absurd (omega arith); grows = grown_by-zero [] ∙ sym (counted-one t h) }
regrows (suc k) t h =
    let rest = counted-pruned (suc k) t (omega arith) h in
    let g = counted-regrafts (suc k) t (omega arith) h in
    regrows-more k (last_choice (suc k) t) g.0 g.1.0 t (ungrown k (pruned (suc k) t)) (length-ungrown k (pruned (suc k) t)) rest g.1.1 g.1.1.choice
    (regrows k (pruned (suc k) t) rest)

-- the choices that are read from a labelled tree grow it, and no others do
pub growth-counted : (k : ℕ) (t : Tree) → IsCounted (suc k) t → IsGrowth (ungrown k t) t
growth-counted k t h =
    let back = regrows k t h in
    let long = length-ungrown k t in
    let valid : IsChoices (ungrown k t) = λ j q. back.valid j (omega arith) in
    let grows : grown (ungrown k t) ≡ t = ap (grown_by (ungrown k t)) long ∙ back.grows in
    record { valid = valid; grows = grows; only = λ others g e. grown-injective others (ungrown k t) g valid (e ∙ sym grows) }

pub growth-ungrown : (k : ℕ) (t : Tree) → leaves t ≡ suc k → IsPermutationList (labels_of t) → IsGrowth (ungrown k t) t
growth-ungrown k t e h = growth-counted k t (subst (λ (n : ℕ). IsCounted n t) e (counted-labels t h))

-- a grown tree with n forks has the labels 0 to n, each once
pub labels-grown : (cs : List ℕ) → IsChoices cs → IsPermutationList (labels_of (grown cs))
labels-grown cs h = labels-counted (suc (length cs)) (grown cs) (counted-grown cs h)

-- and the names 0 to 2n, each once
pub names-grown : (cs : List ℕ) → IsChoices cs → IsPermutationList (names (grown cs)) × (length (names (grown cs)) ≡ 2 * length cs + 1)
names-grown cs h =
    let counted = counted-grown cs h in
    (names-counted (suc (length cs)) (grown cs) counted, omega (arith, length-names (grown cs), counted-leaves (suc (length cs)) (grown cs) counted))
