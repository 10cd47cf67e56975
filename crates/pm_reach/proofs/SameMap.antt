-- When two maps are the same map.
use Rattle.std.proofs.Common.{◌≡◌, ℕ, Bool, true, false, ◌&&◌, nat_eq, List, [], ◌∷◌, ap, sym, ◌∙◌, refl}
use Rattle.std.proofs.lemmas.Bool.{eq-eqb, eqb-true, true≢false}
use Rattle.std.specs.Cmp.Lexicographic.{pointwise}
use Rattle.pm_map.specs.Rotation.{RotationSystem}
use Rattle.pm_reach.specs.Census.{is_same_map}

both_true : (a b : Bool) → (a && b) ≡ true → (a ≡ true) × (b ≡ true)
both_true true b h = (refl, h)
both_true false b h = absurd (true≢false (sym h))

same_numbers : (one other : List ℕ) → pointwise nat_eq one other ≡ true → one ≡ other
same_numbers [] [] h = refl
same_numbers [] (y ∷ ys) h = absurd (true≢false (sym h))
same_numbers (x ∷ xs) [] h = absurd (true≢false (sym h))
same_numbers (x ∷ xs) (y ∷ ys) h =
    let parts = both_true (nat_eq x y) (pointwise nat_eq xs ys) h in
    ap (λ n. n ∷ xs) (eqb-true x y parts.0) ∙ ap (λ ns. y ∷ ns) (same_numbers xs ys parts.1)

numbers_same : (numbers : List ℕ) → pointwise nat_eq numbers numbers ≡ true
numbers_same [] = refl
numbers_same (x ∷ xs) = ap (λ b. b && pointwise nat_eq xs xs) (eq-eqb x x refl) ∙ numbers_same xs

-- maps of which the test holds are equal
pub is_same_map-same : (one other : RotationSystem) → is_same_map one other ≡ true → one ≡ other
is_same_map-same one other h =
    let parts = both_true (pointwise nat_eq one.sigma other.sigma) (nat_eq one.root other.root) h in
    ap (λ sigma. record { sigma = sigma; root = one.root }) (same_numbers one.sigma other.sigma parts.0)
    ∙ ap (λ root. record { sigma = other.sigma; root = root }) (eqb-true one.root other.root parts.1)

-- it holds of a map and itself
pub is_same_map-refl : (map : RotationSystem) → is_same_map map map ≡ true
is_same_map-refl map = ap (λ b. b && nat_eq map.root map.root) (numbers_same map.sigma) ∙ eq-eqb map.root map.root refl
