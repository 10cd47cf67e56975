-- Lists in which each number below the length stands once, by how often each number stands.
use Rattle.std.proofs.Common.{◌≡◌, ℕ, zero, suc, ◌+◌, ◌*◌, ◌<◌, ◌≤◌, List, [], ◌∷◌, ◌++◌, length, get_or, refl, sym, subst, ap, ◌∙◌, inl, inr, arith, length-append}
use Rattle.std.proofs.lemmas.Bool.{cases_lt, cases_eq}
use Rattle.pm_perm.specs.Permutation.{IsPermutationList}
use Rattle.pm_remy.specs.Tree.{Tree, leaf, fork, names, labels_of, leaves}
use Rattle.pm_remy.proofs.Counts.{hit, hit_other, hit_same, label_times, name_times, IsCounted, names-once, names-none}

-- how often a number stands in a list
abbrev pub times : ℕ → List ℕ → ℕ
times m [] = 0
times m (x ∷ xs) = hit x m + times m xs

pub times-append : (m : ℕ) (xs ys : List ℕ) → times m (xs ++ ys) ≡ times m xs + times m ys
times-append m [] ys = omega arith
times-append m (x ∷ xs) ys = omega (arith, times-append m xs ys)

pub times-labels : (m : ℕ) (t : Tree) → times m (labels_of t) ≡ label_times m t
times-labels m (leaf j) = omega arith
times-labels m (fork l r) = omega (arith, times-append m (labels_of l) (labels_of r), times-labels m l, times-labels m r)

pub times-names : (m : ℕ) (t : Tree) → times m (names t) ≡ name_times m t
times-names m (leaf j) = omega arith
times-names m (fork l r) = omega (arith, times-append m (names l) (names r), times-names m l, times-names m r)

-- an entry stands in the list
pub entry-stands : (xs : List ℕ) (k : ℕ) → k < length xs → 1 ≤ times (get_or xs k 0) xs
entry-stands [] k q = absurd (omega arith)
entry-stands (x ∷ xs) zero q = omega (arith, hit_same x x refl)
entry-stands (x ∷ xs) (suc k) q = omega (arith, entry-stands xs k (omega arith))

-- what stands in a list is one of its entries
pub standing-entry : (m : ℕ) (xs : List ℕ) → 1 ≤ times m xs → (k : ℕ) × ((k < length xs) × (get_or xs k 0 ≡ m))
standing-entry m [] h = absurd (omega arith)
standing-entry m (x ∷ xs) h =
    elim (cases_eq x m) [ inl e ↦ (0, (omega arith, e)) | inr e ↦ let found = standing-entry m xs (omega (arith, hit_other x m e)) in (suc found.0, (omega (arith, found.1.0), found.1.1)) ]

-- two places with one number are one place, where no number stands twice
one-place : (xs : List ℕ) → ((m : ℕ) → times m xs ≤ 1) → (j k : ℕ) → j < length xs → k < length xs → get_or xs j 0 ≡ get_or xs k 0 → j ≡ k
one-place [] h j k q i e = absurd (omega arith)
one-place (x ∷ xs) h zero zero q i e = refl
one-place (x ∷ xs) h zero (suc k) q i e = absurd (omega (arith, h x, hit_same x x refl, subst (λ (y : ℕ). 1 ≤ times y xs) (sym e) (entry-stands xs k (omega arith))))
one-place (x ∷ xs) h (suc j) zero q i e = absurd (omega (arith, h x, hit_same x x refl, subst (λ (y : ℕ). 1 ≤ times y xs) e (entry-stands xs j (omega arith))))
one-place (x ∷ xs) h (suc j) (suc k) q i e = ap suc (one-place xs (λ m. omega (arith, h m)) j k (omega arith) (omega arith) e)

-- each number below the length once, and no other
pub permutation_from_times : (xs : List ℕ) → ((m : ℕ) → m < length xs → times m xs ≡ 1) → ((m : ℕ) → length xs ≤ m → times m xs ≡ 0) → IsPermutationList xs
permutation_from_times xs once none =
    let most : (m : ℕ) → times m xs ≤ 1 = λ m. elim (cases_lt m (length xs)) [ inl q ↦ omega (arith, once m q) | inr q ↦ omega (arith, none m q) ] in
    record {
      stays = λ k q. elim (cases_lt (get_or xs k 0) (length xs)) [ inl i ↦ i | inr i ↦ absurd (omega (arith, none (get_or xs k 0) i, entry-stands xs k q)) ];
      injective = λ j k q i e. one-place xs most j k q i e;
    }

-- how often the numbers below a bound stand, together
total : ℕ → List ℕ → ℕ
total zero xs = 0
total (suc n) xs = times n xs + total n xs

hits : ℕ → ℕ → ℕ
hits zero x = 0
hits (suc n) x = hit x n + hits n x

hits-past : (n x : ℕ) → n ≤ x → hits n x ≡ 0
unfolding hits
hits-past zero x q = refl
hits-past (suc n) x q = omega (arith, hits-past n x (omega arith), hit_other x n (omega arith))

hits-within : (n x : ℕ) → x < n → hits n x ≡ 1
unfolding hits
hits-within zero x q = absurd (omega arith)
hits-within (suc n) x q =
    elim (cases_eq x n) [ inl e ↦ omega (arith, hit_same x n e, hits-past n x (omega arith)) | inr e ↦ omega (arith, hit_other x n e, hits-within n x (omega arith)) ]

total-nil : (n : ℕ) → total n [] ≡ 0
unfolding total
total-nil zero = refl
total-nil (suc n) = omega (arith, total-nil n)

total-cons : (n x : ℕ) (xs : List ℕ) → total n (x ∷ xs) ≡ hits n x + total n xs
unfolding total hits
total-cons zero x xs = refl
total-cons (suc n) x xs = omega (arith, total-cons n x xs)

total-length : (n : ℕ) (xs : List ℕ) → ((k : ℕ) → k < length xs → get_or xs k 0 < n) → total n xs ≡ length xs
total-length n [] h = total-nil n
total-length n (x ∷ xs) h =
    let first : x < n = h 0 (omega arith) in
    omega (arith, total-cons n x xs, hits-within n x first, total-length n xs (λ k q. h (suc k) (omega arith)))

total-most : (n : ℕ) (xs : List ℕ) → ((m : ℕ) → times m xs ≤ 1) → total n xs ≤ n
unfolding total
total-most zero xs h = omega arith
total-most (suc n) xs h = omega (arith, total-most n xs h, h n)

total-full : (n : ℕ) (xs : List ℕ) → ((m : ℕ) → times m xs ≤ 1) → total n xs ≡ n → (m : ℕ) → m < n → times m xs ≡ 1
unfolding total
total-full zero xs h e m q = absurd (omega arith)
total-full (suc n) xs h e m q =
    elim (cases_eq m n) [
      | inl i ↦ subst (λ (x : ℕ). times x xs ≡ 1) (sym i) (omega (arith, total-most n xs h, h n))
      | inr i ↦ total-full n xs h (omega (arith, total-most n xs h, h n)) m (omega arith)
    ]

total-ones : (n : ℕ) (xs : List ℕ) → ((m : ℕ) → m < n → times m xs ≡ 1) → total n xs ≡ n
unfolding total
total-ones zero xs h = refl
total-ones (suc n) xs h = omega (arith, h n (omega arith), total-ones n xs (λ m q. h m (omega arith)))

apart-entries : (xs : List ℕ) → ((j k : ℕ) → j < length xs → k < length xs → get_or xs j 0 ≡ get_or xs k 0 → j ≡ k) → (m : ℕ) → times m xs ≤ 1
apart-entries [] h m = omega arith
apart-entries (x ∷ xs) h m =
    let rest = apart-entries xs (λ j k q i e. let s : suc j ≡ suc k = h (suc j) (suc k) (omega arith) (omega arith) e in omega arith) m in
    elim (cases_eq x m) [
      | inl e ↦ elim (cases_lt 0 (times m xs)) [
        | inl q ↦ let found = standing-entry m xs q in
            let s : 0 ≡ suc found.0 = h 0 (suc found.0) (omega arith) (omega (arith, found.1.0)) (e ∙ sym found.1.1) in absurd (omega arith)
        | inr q ↦ omega (arith, hit_same x m e)
      ]
      | inr e ↦ omega (arith, hit_other x m e)
    ]

-- in a permutation each number below the length stands once
pub times-once : (xs : List ℕ) → IsPermutationList xs → (m : ℕ) → m < length xs → times m xs ≡ 1
times-once xs h m q = total-full (length xs) xs (apart-entries xs h.injective) (total-length (length xs) xs h.stays) m q

pub times-none : (xs : List ℕ) → IsPermutationList xs → (m : ℕ) → length xs ≤ m → times m xs ≡ 0
times-none xs h m q =
    elim (cases_lt 0 (times m xs)) [
      | inl i ↦ let found = standing-entry m xs i in let low = h.stays found.0 found.1.0 in absurd (omega (arith, low, found.1.1))
      | inr i ↦ omega arith
    ]

-- the labels of a tree by its list of labels, and back
pub counted-labels : (t : Tree) → IsPermutationList (labels_of t) → IsCounted (leaves t) t
counted-labels t h =
    record {
      once = λ m q. omega (arith, times-once (labels_of t) h m q, times-labels m t);
      none = λ m q. omega (arith, times-none (labels_of t) h m q, times-labels m t);
    }

pub counted-leaves : (k : ℕ) (t : Tree) → IsCounted k t → leaves t ≡ k
counted-leaves k t h =
    let once : (m : ℕ) → m < k → times m (labels_of t) ≡ 1 = λ m q. omega (arith, h.once m q, times-labels m t) in
    let low : (j : ℕ) → j < length (labels_of t) → get_or (labels_of t) j 0 < k =
    λ j q. elim (cases_lt (get_or (labels_of t) j 0) k) [
      | inl i ↦ i
      | inr i ↦ absurd (omega (arith, h.none (get_or (labels_of t) j 0) i, times-labels (get_or (labels_of t) j 0) t, entry-stands (labels_of t) j q))
    ] in
    omega (arith, total-length k (labels_of t) low, total-ones k (labels_of t) once)

pub labels-counted : (k : ℕ) (t : Tree) → IsCounted k t → IsPermutationList (labels_of t)
labels-counted k t h =
    let size = counted-leaves k t h in
    permutation_from_times (labels_of t) (λ m q. omega (arith, times-labels m t, h.once m (omega arith))) (λ m q. omega (arith, times-labels m t, h.none m (omega arith)))

pub length-names : (t : Tree) → suc (length (names t)) ≡ 2 * leaves t
length-names (leaf m) = refl
length-names (fork l r) = omega (arith, length-names l, length-names r, length-append (names l) (names r), length-append (labels_of l) (labels_of r))

-- the names in a labelled tree with n forks are the numbers 0 to 2n, each once
pub names-counted : (k : ℕ) (t : Tree) → IsCounted k t → IsPermutationList (names t)
names-counted k t h =
    let size = counted-leaves k t h in
    let long = length-names t in
    permutation_from_times (names t) (λ m q. omega (arith, times-names m t, names-once k t h m (omega arith))) (λ m q. omega (arith, times-names m t, names-none k t h m (omega arith)))
