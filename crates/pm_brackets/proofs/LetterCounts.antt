-- The walk along the letters to the one of a number.
use Rattle.std.proofs.Common.{◌≡◌, ℕ, suc, ◌+◌, ◌-◌, ◌<◌, List, ◌∷◌, length, slice_index, take, refl, ap, sym, ◌∙◌, subst, arith, take_all}
use Rattle.pm_brackets.specs.Word.{count, IsLetterAt}
use Rattle.pm_brackets.proofs.Tally.{tally_is, tally_yes}
use Rattle.pm_brackets.proofs.Levels.{seen, seen_is, seen_none, seen_here, seen_no}

-- so many of the letter are still to be passed, with the one that is sought
pub record IsCounting (letter : ℕ) (word : List ℕ) (number left i : ℕ) : Type 0 where
  pub some : 0 < left
  pub sum : left + seen letter (letter ∷ word) (suc i) ≡ suc number

pub seen_counts : (letter : ℕ) (places : List ℕ) (k : ℕ) → seen letter places k ≡ count letter (take k places)
seen_counts letter places k = seen_is letter places k ∙ tally_is letter (take k places)

pub plant_is_first : (letter : ℕ) (word : List ℕ) (number : ℕ) → number ≡ 0 → IsLetterAt letter (letter ∷ word) number 0
plant_is_first letter word number e = record {
  here = refl;
  before = let a = seen_none letter (letter ∷ word) in let b = seen_counts letter (letter ∷ word) 0 in omega (arith, a, b, e);
}

pub counting_start : (letter : ℕ) (word : List ℕ) (number : ℕ) → (number ≡ 0 → ⊥) → IsCounting letter word number number 0
counting_start letter word number h =
    let a = seen_here letter (letter ∷ word) 0 (omega arith) refl in
    let b = seen_none letter (letter ∷ word) in
    record { some = omega arith; sum = omega (arith, a, b) }

pub counting_letter : (letter : ℕ) (word : List ℕ) (number left left' i j : ℕ) → IsCounting letter word number left i → i < length word → slice_index word i ≡ letter → (left ≡ 1 → ⊥) → left' ≡ left - 1 → j ≡ suc i → IsCounting letter word number left' j
counting_letter letter word number left left' i j c inside h ne e f =
    let a = seen_here letter (letter ∷ word) (suc i) (omega arith) h in
    let b = ap (λ (k : ℕ). seen letter (letter ∷ word) (suc k)) f in
    record { some = omega (arith, c.some); sum = omega (arith, a, b, c.sum, c.some) }

pub counting_other : (letter : ℕ) (word : List ℕ) (number left left' i j : ℕ) → IsCounting letter word number left i → (slice_index word i ≡ letter → ⊥) → left' ≡ left → j ≡ suc i → IsCounting letter word number left' j
counting_other letter word number left left' i j c h e f =
    let a = seen_no letter (letter ∷ word) (suc i) h in
    let b = ap (λ (k : ℕ). seen letter (letter ∷ word) (suc k)) f in
    record { some = omega (arith, c.some, e); sum = omega (arith, a, b, c.sum, e) }

pub counting_found : (letter : ℕ) (word : List ℕ) (number left i j : ℕ) → IsCounting letter word number left i → slice_index word i ≡ letter → left ≡ 1 → j ≡ suc i → IsLetterAt letter (letter ∷ word) number j
counting_found letter word number left i j c h e f =
    let a = seen_counts letter (letter ∷ word) (suc i) in
    subst (IsLetterAt letter (letter ∷ word) number) (sym f) (record { here = h; before = omega (arith, a, c.sum, e) })

pub counting_end : (letter : ℕ) (word : List ℕ) (number left i : ℕ) → IsCounting letter word number left i → i ≡ length word → number < count letter (letter ∷ word) → ⊥
counting_end letter word number left i c e l =
    let a = seen_counts letter (letter ∷ word) (suc i) in
    let b : take (suc i) (letter ∷ word) ≡ letter ∷ word = take_all (suc i) (letter ∷ word) (omega (arith, e)) in
    let d = ap (count letter) b in
    omega (arith, a, c.sum, c.some, d, l)

-- the letters before a place behind the plant
pub count_before : (letter : ℕ) (word : List ℕ) (place n : ℕ) → (place ≡ 0 → ⊥) → n ≡ count letter (take (place - 1) word) → n + 1 ≡ count letter (take place (letter ∷ word))
count_before letter word place n some e =
    let next : suc (place - 1) ≡ place = omega arith in
    let one : n + 1 ≡ suc n = omega arith in
    one ∙ ap suc (e ∙ sym (tally_is letter (take (place - 1) word))) ∙ sym (tally_yes letter letter (take (place - 1) word) refl)
    ∙ tally_is letter (letter ∷ take (place - 1) word) ∙ ap (λ (k : ℕ). count letter (take k (letter ∷ word))) next
