-- The inverse of a permutation below a bound, as a function.
use Rattle.std.proofs.Common.{◌≡◌, ℕ, zero, suc, ◌<◌, cond, eqb, List, length, get_or, sym, ap, subst, ◌∙◌, inl, inr, eq-eqb, ne_eqb, arith, Contains}
use Rattle.std.proofs.lemmas.Bool.{cases_eq, cond-true, cond-false}
use Rattle.pm_perm.proofs.Contained.{is_at}
use Rattle.pm_perm.specs.Permutation.{IsPermutationBelow, IsPermutationList}
use Rattle.pm_perm.proofs.Permutations.{IsReached, reached}

-- the number below the bound whose value is y, 0 where there is none
pub place_of : (ℕ → ℕ) → ℕ → ℕ → ℕ
place_of f zero y = 0
place_of f (suc bound) y = cond (eqb (f bound) y) bound (place_of f bound y)

-- that number where there is one
pub place_of-value : (f : ℕ → ℕ) (bound y : ℕ) → IsReached f bound y → (place_of f bound y < bound) × (f (place_of f bound y) ≡ y)
unfolding place_of
place_of-value f zero y r = let below : r.from < 0 = r.below in absurd (omega arith)
place_of-value f (suc bound) y r =
    let below : r.from < suc bound = r.below in
    elim (cases_eq (f bound) y) [
      | inl e ↦
          let here : cond (eqb (f bound) y) bound (place_of f bound y) ≡ bound = cond-true (eqb (f bound) y) bound (place_of f bound y) (eq-eqb (f bound) y e) in
          (omega arith, ap f here ∙ e)
      | inr e ↦
          let there : cond (eqb (f bound) y) bound (place_of f bound y) ≡ place_of f bound y = cond-false (eqb (f bound) y) bound (place_of f bound y) (ne_eqb (f bound) y e) in
          let inside : r.from < bound = elim (cases_eq r.from bound) [ inl same ↦ absurd (e (ap f (sym same) ∙ r.value)) | inr differs ↦ omega arith ] in
          let rest : (place_of f bound y < bound) × (f (place_of f bound y) ≡ y) = place_of-value f bound y (record { from = r.from; below = inside; value = r.value }) in
          (omega (arith, rest.0), ap f there ∙ rest.1)
    ]

-- the inverse of a permutation: its values below the bound are what is gone to
pub place_of-stays : (f : ℕ → ℕ) (bound y : ℕ) → IsPermutationBelow bound f → y < bound → place_of f bound y < bound
place_of-stays f bound y p h = (place_of-value f bound y (reached f bound y p h)).0

pub value-place_of : (f : ℕ → ℕ) (bound y : ℕ) → IsPermutationBelow bound f → y < bound → f (place_of f bound y) ≡ y
value-place_of f bound y p h = (place_of-value f bound y (reached f bound y p h)).1

pub place_of-of_value : (f : ℕ → ℕ) (bound k : ℕ) → IsPermutationBelow bound f → k < bound → place_of f bound (f k) ≡ k
place_of-of_value f bound k p h =
    p.injective (place_of f bound (f k)) k (place_of-stays f bound (f k) p (p.stays k h)) h (value-place_of f bound (f k) p (p.stays k h))

-- the inverse is a permutation
pub place_of-permutes : (f : ℕ → ℕ) (bound : ℕ) → IsPermutationBelow bound f → IsPermutationBelow bound (place_of f bound)
place_of-permutes f bound p = record {
  stays = λ y h. place_of-stays f bound y p h;
  injective = λ x y hx hy e. sym (value-place_of f bound x p hx) ∙ ap f e ∙ value-place_of f bound y p hy;
}

-- a function below a bound that reaches each number below it is a permutation
pub onto_permutes : (bound : ℕ) (f : ℕ → ℕ) → ((y : ℕ) → y < bound → IsReached f bound y) → IsPermutationBelow bound f
onto_permutes bound f onto =
    let g : ℕ → ℕ = place_of f bound in
    let back : (y : ℕ) → y < bound → (g y < bound) × (f (g y) ≡ y) = λ y h. place_of-value f bound y (onto y h) in
    let p : IsPermutationBelow bound g = record {
      stays = λ y h. (back y h).0;
      injective = λ x y hx hy e. sym ((back x hx).1) ∙ ap f e ∙ (back y hy).1;
    } in
    let from : (k : ℕ) → k < bound → IsReached g bound k = λ k h. reached g bound k p h in
    let value : (k : ℕ) (h : k < bound) → f k ≡ (from k h).from = λ k h. ap f (sym ((from k h).value)) ∙ (back ((from k h).from) ((from k h).below)).1 in
    record {
      stays = λ k h. subst (λ x. x < bound) (sym (value k h)) ((from k h).below);
      injective = λ j k hj hk e. sym ((from j hj).value) ∙ ap g (sym (value j hj) ∙ e ∙ value k hk) ∙ (from k hk).value;
    }

-- a list in which each number below its length stands is a permutation
pub standing_permutes : (values : List ℕ) → ((n : ℕ) → n < length values → Contains values n) → IsPermutationList values
standing_permutes values all =
    onto_permutes (length values) (λ k. get_or values k 0)
    (λ y h. let s = all y h in record { from = s.0; below = s.1; value = (is_at _ _ s) })
