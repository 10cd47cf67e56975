-- How often a letter stands in a list, as a word that stays closed.
use Rattle.std.proofs.Common.{◌≡◌, ℕ, suc, ◌+◌, ◌==◌, List, [], ◌∷◌, ◌++◌, refl, arith, cond, ne_eqb, eq-eqb}
use Rattle.std.proofs.lemmas.List.Sums.{sum_by-cons, sum_by-append}
use Rattle.pm_brackets.specs.Word.{count}

unfoldable pub tally : ℕ → List ℕ → ℕ
tally letter xs = count letter xs

pub tally_is : (letter : ℕ) (xs : List ℕ) → tally letter xs ≡ count letter xs
unfolding tally
tally_is letter xs = refl

pub tally-nil : (letter : ℕ) → tally letter [] ≡ 0
unfolding tally
tally-nil letter = refl

pub tally_yes : (letter x : ℕ) (xs : List ℕ) → x ≡ letter → tally letter (x ∷ xs) ≡ suc (tally letter xs)
unfolding tally
tally_yes letter x xs h =
    let p = sum_by-cons (λ (y : ℕ). cond (y == letter) 1 0) x xs in
    let q : cond {A = ℕ} (x == letter) 1 0 ≡ 1 = rw (eq-eqb x letter h) refl in
    omega (arith, p, q)

pub tally_no : (letter x : ℕ) (xs : List ℕ) → (x ≡ letter → ⊥) → tally letter (x ∷ xs) ≡ tally letter xs
unfolding tally
tally_no letter x xs h =
    let p = sum_by-cons (λ (y : ℕ). cond (y == letter) 1 0) x xs in
    let q : cond {A = ℕ} (x == letter) 1 0 ≡ 0 = rw (ne_eqb x letter h) refl in
    omega (arith, p, q)

pub tally-append : (letter : ℕ) (xs ys : List ℕ) → tally letter (xs ++ ys) ≡ tally letter xs + tally letter ys
unfolding tally
tally-append letter xs ys = sum_by-append (λ (y : ℕ). cond (y == letter) 1 0) xs ys
