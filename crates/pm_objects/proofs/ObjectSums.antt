-- Sums over the objects of a permutation, and over the half degrees.
use Rattle.std.proofs.Common.{◌≡◌, ℕ, zero, suc, ◌+◌, ◌-◌, ◌*◌, ◌<◌, ◌≤◌, cond, ltb, inl, inr, List, [], ◌∷◌, length, get_or, take, drop, refl, ap, sym, ◌∙◌, arith, take_all}
use Rattle.std.specs.List.{sum_by}
use Rattle.std.proofs.lemmas.Bool.{cases_order, lt-ltb, le-ltb}
use Rattle.std.proofs.lemmas.List.{get_or_past}
use Rattle.std.proofs.lemmas.List.Sums.{sum_by-cons, sum_by-append, sum_by-take-drop, sum_by_more}
use Rattle.pm_perm.specs.Permutation.{IsPermutationList}
use Rattle.pm_lehmer.specs.Lehmer.{count_below}
use Rattle.pm_lehmer.proofs.CountBelow.{count_below-nil, count_below-smaller, count_below-other}
use Rattle.pm_lehmer.proofs.Arranged.{count_below-permutation}
use Rattle.pm_words.specs.Word.{turned}

-- f 0 + f 1 + .. + f (n-1)
pub sum_upto : (ℕ → ℕ) → ℕ → ℕ
sum_upto f zero = 0
sum_upto f (suc n) = sum_upto f n + f n

pub sum_upto-none : (f : ℕ → ℕ) → sum_upto f 0 ≡ 0
unfolding sum_upto
sum_upto-none f = refl

pub sum_upto-more : (f : ℕ → ℕ) (n : ℕ) → sum_upto f (suc n) ≡ sum_upto f n + f n
unfolding sum_upto
sum_upto-more f n = refl

-- the sum over the entries below a bound
sum_below : (ℕ → ℕ) → ℕ → List ℕ → ℕ
sum_below f n xs = sum_by (λ x. cond (ltb x n) (f x) 0) xs

below-nil : (f : ℕ → ℕ) (n : ℕ) → sum_below f n [] ≡ 0
unfolding sum_below
below-nil f n = refl

below-yes : (f : ℕ → ℕ) (n x : ℕ) (xs : List ℕ) → x < n → sum_below f n (x ∷ xs) ≡ f x + sum_below f n xs
unfolding sum_below
below-yes f n x xs less = sum_by-cons (λ x. cond (ltb x n) (f x) 0) x xs ∙ ap (λ b. cond b (f x) 0 + sum_by (λ x. cond (ltb x n) (f x) 0) xs) (lt-ltb x n less)

below-no : (f : ℕ → ℕ) (n x : ℕ) (xs : List ℕ) → n ≤ x → sum_below f n (x ∷ xs) ≡ sum_below f n xs
unfolding sum_below
below-no f n x xs more =
    let e : 0 + sum_by (λ x. cond (ltb x n) (f x) 0) xs ≡ sum_by (λ x. cond (ltb x n) (f x) 0) xs = omega arith in
    sum_by-cons (λ x. cond (ltb x n) (f x) 0) x xs ∙ ap (λ b. cond b (f x) 0 + sum_by (λ x. cond (ltb x n) (f x) 0) xs) (le-ltb x n more) ∙ e

-- one number more
below-step : (f : ℕ → ℕ) (n : ℕ) (xs : List ℕ) → sum_below f (suc n) xs + f n * count_below n xs ≡ sum_below f n xs + f n * count_below (suc n) xs
below-step f n [] =
    let a = below-nil f n in
    let b = below-nil f (suc n) in
    let c = ap (λ (k : ℕ). f n * k) (count_below-nil n) in
    let d = ap (λ (k : ℕ). f n * k) (count_below-nil (suc n)) in
    omega (arith, a, b, c, d)
below-step f n (x ∷ xs) =
    let rest = below-step f n xs in
    elim (cases_order x n) [
      | inl same ↦
          let a = below-no f n x xs (omega arith) in
          let b = below-yes f (suc n) x xs (omega arith) in
          let c = ap (λ (k : ℕ). f n * k) (count_below-other n x xs (omega arith)) in
          let d = ap (λ (k : ℕ). f n * k) (count_below-smaller (suc n) x xs (omega arith)) in
          let e = ap f same in
          omega (arith, rest, a, b, c, d, e)
      | inr apart ↦ elim apart [
        | inl less ↦
            let a = below-yes f n x xs less in
            let b = below-yes f (suc n) x xs (omega arith) in
            let c = ap (λ (k : ℕ). f n * k) (count_below-smaller n x xs less) in
            let d = ap (λ (k : ℕ). f n * k) (count_below-smaller (suc n) x xs (omega arith)) in
            omega (arith, rest, a, b, c, d)
        | inr more ↦
            let a = below-no f n x xs (omega arith) in
            let b = below-no f (suc n) x xs (omega arith) in
            let c = ap (λ (k : ℕ). f n * k) (count_below-other n x xs (omega arith)) in
            let d = ap (λ (k : ℕ). f n * k) (count_below-other (suc n) x xs (omega arith)) in
            omega (arith, rest, a, b, c, d)
      ]
    ]

below-upto : (f : ℕ → ℕ) (n : ℕ) (xs : List ℕ) → IsPermutationList xs → n ≤ length xs → sum_below f n xs ≡ sum_upto f n
below-upto f zero xs is within = none xs ∙ sym (sum_upto-none f) where
  none : (xs : List ℕ) → sum_below f 0 xs ≡ 0
  none [] = below-nil f 0
  none (x ∷ xs) = below-no f 0 x xs (omega arith) ∙ none xs
below-upto f (suc n) xs is within =
    let rest = below-upto f n xs is (omega arith) in
    let step = below-step f n xs in
    let a = ap (λ (k : ℕ). f n * k) (count_below-permutation n xs is (omega arith)) in
    let b = ap (λ (k : ℕ). f n * k) (count_below-permutation (suc n) xs is within) in
    let c = sum_upto-more f n in
    omega (arith, rest, step, a, b, c)

below-all : (f : ℕ → ℕ) (n : ℕ) (xs : List ℕ) → ((k : ℕ) → k < length xs → get_or xs k 0 < n) → sum_by f xs ≡ sum_below f n xs
below-all f n [] under = sym (below-nil f n)
below-all f n (x ∷ xs) under =
    sum_by-cons f x xs ∙ ap (λ (k : ℕ). f x + k) (below-all f n xs (λ k inside. under (suc k) (omega arith))) ∙ sym (below-yes f n x xs (under 0 (omega arith)))

-- a sum over a permutation is the sum over the numbers below its length
pub sum_by-permutation : (f : ℕ → ℕ) (xs : List ℕ) → IsPermutationList xs → sum_by f xs ≡ sum_upto f (length xs)
sum_by-permutation f xs is = below-all f (length xs) xs is.stays ∙ below-upto f (length xs) xs is (omega arith)

-- read cyclically from another place on, it is the same
pub sum_by-turned : {X : Type 0} (f : X → ℕ) (start : ℕ) (xs : List X) → sum_by f (turned start xs) ≡ sum_by f xs
sum_by-turned f start xs = omega (arith, sum_by-append f (drop start xs) (take start xs), sum_by-take-drop f xs start)

-- a sum over numbers, of which those past a list count as 0
upto-prefix : (g : ℕ → ℕ) (xs : List ℕ) (n : ℕ) → n ≤ length xs → sum_upto (λ k. g (get_or xs k 0)) n ≡ sum_by g (take n xs)
upto-prefix g xs zero within = sum_upto-none (λ k. g (get_or xs k 0))
upto-prefix g xs (suc n) within =
    let e : n + 1 ≡ suc n = omega arith in
    let a = sum_by_more g xs n 0 (omega arith) in
    let b = ap (λ (k : ℕ). sum_by g (take k xs)) e in
    omega (arith, sum_upto-more (λ k. g (get_or xs k 0)) n, upto-prefix g xs n (omega arith), a, b)

upto-past : (g : ℕ → ℕ) (xs : List ℕ) (more : ℕ) → sum_upto (λ k. g (get_or xs k 0)) (length xs + more) ≡ sum_by g xs + more * g 0
upto-past g xs zero =
    let e : length xs + 0 ≡ length xs = omega arith in
    let a = ap (λ (k : ℕ). sum_upto (λ k. g (get_or xs k 0)) k) e in
    let b = ap (λ (ys : List ℕ). sum_by g ys) (take_all (length xs) xs (omega arith)) in
    omega (arith, a, b, upto-prefix g xs (length xs) (omega arith))
upto-past g xs (suc more) =
    let e : length xs + suc more ≡ suc (length xs + more) = omega arith in
    let a = ap (λ (k : ℕ). sum_upto (λ k. g (get_or xs k 0)) k) e in
    let b = ap g (get_or_past xs (length xs + more) 0 (omega arith)) in
    omega (arith, a, b, upto-past g xs more, sum_upto-more (λ k. g (get_or xs k 0)) (length xs + more))

pub sum_upto-list : (g : ℕ → ℕ) (xs : List ℕ) (n : ℕ) → length xs ≤ n → sum_upto (λ k. g (get_or xs k 0)) n ≡ sum_by g xs + (n - length xs) * g 0
sum_upto-list g xs n within =
    let e : n ≡ length xs + (n - length xs) = omega arith in
    ap (λ (k : ℕ). sum_upto (λ k. g (get_or xs k 0)) k) e ∙ upto-past g xs (n - length xs)
