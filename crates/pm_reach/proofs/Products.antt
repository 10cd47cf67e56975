-- The product of bounds, taken from the first on.
use Rattle.std.proofs.Common.{◌≡◌, ℕ, suc, ◌+◌, ◌*◌, ◌<◌, ◌≤◌, List, [], ◌∷◌, length, slice_index, drop, All, ap, sym, ◌∙◌, subst, arith}
use Rattle.std.proofs.Math.Nat.{mul_assoc, one-le-mul, le-mul_of_pos_right, mul-one}
use Rattle.std.proofs.lemmas.List.{drop_more, drop_all}
use Rattle.std.proofs.lemmas.List.Elements.{All-drop}
use Rattle.pm_lists.specs.Valid.{AreBounds}
use Rattle.pm_reach.specs.Census.{product}
use Rattle.pm_reach.specs.steps.Walking.{IsMultiplied}

-- one bound more
pub IsMultiplied-more : (bounds : List ℕ) (place count : ℕ) → place < length bounds → IsMultiplied bounds place count
    → IsMultiplied bounds (place + 1) (count * slice_index bounds place)
IsMultiplied-more bounds place count within m = record {
  whole = mul_assoc count (slice_index bounds place) (product (drop (place + 1) bounds))
      ∙ ap (λ numbers. count * product numbers) (sym (drop_more bounds place 0 within)) ∙ m.whole;
}

-- at the end the number is the whole product
pub IsMultiplied-all : (bounds : List ℕ) (place count : ℕ) → length bounds ≤ place → IsMultiplied bounds place count → count ≡ product bounds
IsMultiplied-all bounds place count past m =
    sym (mul-one count) ∙ ap (λ numbers. count * product numbers) (sym (drop_all place bounds past)) ∙ m.whole

-- a product of bounds is at least 1
one-le-product : (bounds : List ℕ) → All (λ bound. 1 ≤ bound) bounds → 1 ≤ product bounds
one-le-product [] each = omega arith
one-le-product (bound ∷ bounds) each = one-le-mul (each 0 1 (omega arith)) (one-le-product bounds (λ place other within. each (suc place) other (omega arith)))

one-le-product_rest : (bounds : List ℕ) (place : ℕ) → All (λ bound. 1 ≤ bound) bounds → 1 ≤ product (drop place bounds)
one-le-product_rest bounds place each = one-le-product (drop place bounds) (All-drop (λ bound. 1 ≤ bound) place bounds each)

-- the whole product is no less
pub IsMultiplied-below : (bounds : List ℕ) (place count : ℕ) → AreBounds bounds → IsMultiplied bounds place count → count ≤ product bounds
IsMultiplied-below bounds place count are m =
    subst (λ n. count ≤ n) m.whole (le-mul_of_pos_right count (one-le-product_rest bounds place are.each))
