-- Lists in which each number but 0 stands as often: their sums, and how often 0 stands.
use Rattle.std.proofs.Common.{◌≡◌, ℕ, zero, suc, ◌+◌, ◌*◌, ◌<◌, ◌≤◌, ◌==◌, cond, inl, inr, List, [], ◌∷◌, length, map, refl, ap, sym, ◌∙◌, subst, arith, eq-eqb, ne_eqb}
use Rattle.std.specs.Prelude.{count_by, sum}
use Rattle.std.specs.List.{sum_by}
use Rattle.std.proofs.lemmas.Bool.{cases_eq}
use Rattle.std.proofs.lemmas.List.Sums.{sum_by-cons}
use Rattle.pm_objects.proofs.ObjectSums.{sum_upto, sum_upto-none, sum_upto-more}
use Rattle.pm_objects.proofs.Sorting.{count_yes, count_no}

-- how often a key stands
pub counted_keys : (key : ℕ → ℕ) (k : ℕ) (xs : List ℕ) → count_by (λ y. y == k) (map key xs) ≡ count_by (λ x. key x == k) xs
counted_keys key k [] = refl
counted_keys key k (x ∷ xs) =
    sum_by-cons (λ (y : ℕ). cond (y == k) 1 0) (key x) (map key xs) ∙ ap (λ n. cond (key x == k) 1 0 + n) (counted_keys key k xs) ∙ sym (sum_by-cons (λ (y : ℕ). cond (key y == k) 1 0) x xs)

-- what a number adds to the sum
share : (ℕ → ℕ) → List ℕ → ℕ → ℕ
share f xs v = count_by (λ y. y == v) xs * f v

share_is : (f : ℕ → ℕ) (xs : List ℕ) (v : ℕ) → share f xs v ≡ count_by (λ y. y == v) xs * f v
unfolding share
share_is f xs v = refl

share_here : (f : ℕ → ℕ) (x : ℕ) (xs : List ℕ) (v : ℕ) → x ≡ v → share f (x ∷ xs) v ≡ f v + share f xs v
share_here f x xs v e =
    let a = ap (λ n. n * f v) (count_yes v x xs e) in
    let b = share_is f (x ∷ xs) v in
    let c = share_is f xs v in
    let d : suc (count_by (λ y. y == v) xs) * f v ≡ f v + count_by (λ y. y == v) xs * f v = omega arith in
    omega (arith, a, b, c, d)

share_other : (f : ℕ → ℕ) (x : ℕ) (xs : List ℕ) (v : ℕ) → (x ≡ v → ⊥) → share f (x ∷ xs) v ≡ share f xs v
share_other f x xs v n = share_is f (x ∷ xs) v ∙ ap (λ k. k * f v) (count_no v x xs n) ∙ sym (share_is f xs v)

shares_above : (f : ℕ → ℕ) (x : ℕ) (xs : List ℕ) (n : ℕ) → n ≤ x → sum_upto (share f (x ∷ xs)) n ≡ sum_upto (share f xs) n
shares_above f x xs zero above = sum_upto-none (share f (x ∷ xs)) ∙ sym (sum_upto-none (share f xs))
shares_above f x xs (suc n) above =
    let a = sum_upto-more (share f (x ∷ xs)) n in
    let b = sum_upto-more (share f xs) n in
    let h = shares_above f x xs n (omega (arith, above)) in
    let c = share_other f x xs n (λ e. omega (arith, e, above)) in
    omega (arith, a, b, c, h)

shares_below : (f : ℕ → ℕ) (x : ℕ) (xs : List ℕ) (n : ℕ) → x < n → sum_upto (share f (x ∷ xs)) n ≡ f x + sum_upto (share f xs) n
shares_below f x xs zero below = absurd (omega (arith, below))
shares_below f x xs (suc n) below =
    let a = sum_upto-more (share f (x ∷ xs)) n in
    let b = sum_upto-more (share f xs) n in
    elim (cases_eq x n) [
      | inl e ↦
          let h = shares_above f x xs n (omega (arith, e)) in
          let c = share_here f x xs n e in
          let d = ap f e in
          omega (arith, a, b, c, d, h)
      | inr apart ↦
          let h = shares_below f x xs n (omega (arith, below, apart)) in
          let c = share_other f x xs n apart in
          omega (arith, a, b, c, h)
    ]

no_shares : (f : ℕ → ℕ) (n : ℕ) → sum_upto (share f []) n ≡ 0
no_shares f zero = sum_upto-none (share f [])
no_shares f (suc n) =
    let a = sum_upto-more (share f []) n in
    let b : share f [] n ≡ 0 * f n = share_is f [] n in
    let h = no_shares f n in
    omega (arith, a, b, h)

sum_of_shares : (f : ℕ → ℕ) (xs : List ℕ) (n : ℕ) → sum xs < n → sum_by f xs ≡ sum_upto (share f xs) n
sum_of_shares f [] n less = sym (no_shares f n)
sum_of_shares f (x ∷ xs) n less =
    let a = sum_by-cons (λ (y : ℕ). y) x xs in
    let h = sum_of_shares f xs n (omega (arith, a, less)) in
    let b = shares_below f x xs n (omega (arith, a, less)) in
    let c = sum_by-cons f x xs in
    omega (arith, b, c, h)

shares_agree : (f : ℕ → ℕ) (xs ys : List ℕ) (n : ℕ) → f 0 ≡ 0 → ((v : ℕ) → 0 < v → count_by (λ y. y == v) xs ≡ count_by (λ y. y == v) ys) → sum_upto (share f xs) n ≡ sum_upto (share f ys) n
shares_agree f xs ys zero none same = sum_upto-none (share f xs) ∙ sym (sum_upto-none (share f ys))
shares_agree f xs ys (suc n) none same =
    let a = sum_upto-more (share f xs) n in
    let b = sum_upto-more (share f ys) n in
    let h = shares_agree f xs ys n none same in
    let c = share_is f xs n in
    let d = share_is f ys n in
    elim (cases_eq n 0) [
      | inl e ↦
          let nothing : f n ≡ 0 = ap f e ∙ none in
          let g = ap (λ k. count_by (λ y. y == n) xs * k) nothing in
          let i = ap (λ k. count_by (λ y. y == n) ys * k) nothing in
          omega (arith, a, b, c, d, g, i, h)
      | inr some ↦
          let g = ap (λ k. k * f n) (same n (omega (arith, some))) in
          omega (arith, a, b, c, d, g, h)
    ]

pub same_sums : (f : ℕ → ℕ) (xs ys : List ℕ) → f 0 ≡ 0 → ((v : ℕ) → 0 < v → count_by (λ y. y == v) xs ≡ count_by (λ y. y == v) ys) → sum_by f xs ≡ sum_by f ys
same_sums f xs ys none same =
    sum_of_shares f xs (suc (sum xs + sum ys)) (omega arith) ∙ shares_agree f xs ys (suc (sum xs + sum ys)) none same ∙ sym (sum_of_shares f ys (suc (sum xs + sum ys)) (omega arith))

-- 0 and the other numbers
nonzero : ℕ → ℕ
nonzero v = cond (v == 0) 0 1

nonzero-none : nonzero 0 ≡ 0
unfolding nonzero
nonzero-none = refl

zero_or_not : (v : ℕ) → cond {A = ℕ} (v == 0) 1 0 + nonzero v ≡ 1
unfolding nonzero
zero_or_not v = elim (cases_eq v 0) [
  | inl e ↦
      let a : cond {A = ℕ} (v == 0) 1 0 ≡ 1 = rw (eq-eqb v 0 e) refl in
      let b : cond {A = ℕ} (v == 0) 0 1 ≡ 0 = rw (eq-eqb v 0 e) refl in
      omega (arith, a, b)
  | inr n ↦
      let a : cond {A = ℕ} (v == 0) 1 0 ≡ 0 = rw (ne_eqb v 0 n) refl in
      let b : cond {A = ℕ} (v == 0) 0 1 ≡ 1 = rw (ne_eqb v 0 n) refl in
      omega (arith, a, b)
]

length_by_zeros : (xs : List ℕ) → count_by (λ y. y == 0) xs + sum_by nonzero xs ≡ length xs
length_by_zeros [] = refl
length_by_zeros (x ∷ xs) =
    omega (arith, sum_by-cons (λ (y : ℕ). cond (y == 0) 1 0) x xs, sum_by-cons nonzero x xs, zero_or_not x, length_by_zeros xs)

-- where each list is as long as the sum of the numbers and one more, 0 stands as often too
pub record IsAsMany (xs ys : List ℕ) : Type 0 where
  pub lengths : length xs ≡ length ys
  pub each : (v : ℕ) → count_by (λ y. y == v) xs ≡ count_by (λ y. y == v) ys

pub as_many : (xs ys : List ℕ) → length xs ≡ suc (sum xs) → length ys ≡ suc (sum ys) → ((v : ℕ) → 0 < v → count_by (λ y. y == v) xs ≡ count_by (λ y. y == v) ys) → IsAsMany xs ys
as_many xs ys long other_long same =
    let sums = same_sums (λ y. y) xs ys refl same in
    let others = same_sums nonzero xs ys nonzero-none same in
    let a = length_by_zeros xs in
    let b = length_by_zeros ys in
    let zeros : count_by (λ y. y == 0) xs ≡ count_by (λ y. y == 0) ys = omega (arith, sums, others, a, b, long, other_long) in
    record {
      lengths = omega (arith, sums, long, other_long);
      each = λ v. elim (cases_eq v 0) [
        | inl none ↦ subst (λ (n : ℕ). count_by (λ y. y == n) xs ≡ count_by (λ y. y == n) ys) (sym none) zeros
        | inr some ↦ same v (omega (arith, some))
      ];
    }
