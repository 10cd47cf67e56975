-- The letters of a level, letter by letter: how many they are, and how many of them are buds.
use Rattle.std.proofs.Common.{◌≡◌, ℕ, suc, ◌-◌, ◌==◌, List, [], ◌∷◌, length, refl, ap, ◌∙◌, arith, ne_eqb, false}
use Rattle.pm_trees.specs.declared.letters.TheConstants.{BUD}
use Rattle.pm_brackets.specs.declared.letters.TheConstants.{OPEN, CLOSE}
use Rattle.pm_brackets.specs.Word.{IsOther, count}
use Rattle.pm_trees.specs.Node.{own_letters}
use Rattle.pm_brackets.proofs.Tally.{tally, tally_yes, tally_no}

suc_is_some : (d : ℕ) → (suc d == 0) ≡ false
suc_is_some d = ne_eqb (suc d) 0 (λ h. omega arith)

pub other_here : (x : ℕ) (xs : List ℕ) → IsOther x → own_letters 0 (x ∷ xs) ≡ x ∷ own_letters 0 xs
other_here x xs h = rw (ne_eqb x OPEN h.not_open, ne_eqb x CLOSE h.not_close) refl

pub other_above : (d x : ℕ) (xs : List ℕ) → IsOther x → own_letters (suc d) (x ∷ xs) ≡ own_letters (suc d) xs
other_above d x xs h = rw (ne_eqb x OPEN h.not_open, ne_eqb x CLOSE h.not_close, suc_is_some d) refl

pub open_above : (d : ℕ) (xs : List ℕ) → own_letters (suc d) (OPEN ∷ xs) ≡ own_letters (suc (suc d)) xs
open_above d xs = rw (suc_is_some d) refl

pub close_above : (d : ℕ) (xs : List ℕ) → own_letters (suc d) (CLOSE ∷ xs) ≡ own_letters d xs
close_above d xs = let e : suc d - 1 ≡ d = omega arith in rw (suc_is_some d, e) refl

unfoldable pub own_length : ℕ → List ℕ → ℕ
own_length d xs = length (own_letters d xs)

unfoldable pub own_buds : ℕ → List ℕ → ℕ
own_buds d xs = count BUD (own_letters d xs)

pub own_length_is : (d : ℕ) (xs : List ℕ) → own_length d xs ≡ length (own_letters d xs)
unfolding own_length
own_length_is d xs = refl

pub own_buds_is : (d : ℕ) (xs : List ℕ) → own_buds d xs ≡ count BUD (own_letters d xs)
unfolding own_buds
own_buds_is d xs = refl

pub own_length-nil : (d : ℕ) → own_length d [] ≡ 0
unfolding own_length
own_length-nil d = refl

pub own_buds-nil : (d : ℕ) → own_buds d [] ≡ 0
unfolding own_buds
own_buds-nil d = refl

pub own_length_other_here : (x : ℕ) (xs : List ℕ) → IsOther x → own_length 0 (x ∷ xs) ≡ suc (own_length 0 xs)
unfolding own_length
own_length_other_here x xs h = ap length (other_here x xs h)

pub own_length_other_above : (d x : ℕ) (xs : List ℕ) → IsOther x → own_length (suc d) (x ∷ xs) ≡ own_length (suc d) xs
unfolding own_length
own_length_other_above d x xs h = ap length (other_above d x xs h)

pub own_length_open_here : (xs : List ℕ) → own_length 0 (OPEN ∷ xs) ≡ suc (own_length 1 xs)
unfolding own_length
own_length_open_here xs = refl

pub own_length_open_above : (d : ℕ) (xs : List ℕ) → own_length (suc d) (OPEN ∷ xs) ≡ own_length (suc (suc d)) xs
unfolding own_length
own_length_open_above d xs = ap length (open_above d xs)

pub own_length_close_here : (xs : List ℕ) → own_length 0 (CLOSE ∷ xs) ≡ 0
unfolding own_length
own_length_close_here xs = refl

pub own_length_close_above : (d : ℕ) (xs : List ℕ) → own_length (suc d) (CLOSE ∷ xs) ≡ own_length d xs
unfolding own_length
own_length_close_above d xs = ap length (close_above d xs)

pub own_buds_bud_here : (x : ℕ) (xs : List ℕ) → x ≡ BUD → own_buds 0 (x ∷ xs) ≡ suc (own_buds 0 xs)
unfolding own_buds tally
own_buds_bud_here x xs h =
    let o : IsOther x = record { not_open = λ k. omega arith; not_close = λ k. omega arith } in
    ap (count BUD) (other_here x xs o) ∙ tally_yes BUD x (own_letters 0 xs) h

pub own_buds_other_here : (x : ℕ) (xs : List ℕ) → IsOther x → (x ≡ BUD → ⊥) → own_buds 0 (x ∷ xs) ≡ own_buds 0 xs
unfolding own_buds tally
own_buds_other_here x xs o h = ap (count BUD) (other_here x xs o) ∙ tally_no BUD x (own_letters 0 xs) h

pub own_buds_other_above : (d x : ℕ) (xs : List ℕ) → IsOther x → own_buds (suc d) (x ∷ xs) ≡ own_buds (suc d) xs
unfolding own_buds
own_buds_other_above d x xs h = ap (count BUD) (other_above d x xs h)

pub own_buds_open_here : (xs : List ℕ) → own_buds 0 (OPEN ∷ xs) ≡ own_buds 1 xs
unfolding own_buds tally
own_buds_open_here xs = tally_no BUD OPEN (own_letters 1 xs) (λ k. omega arith)

pub own_buds_open_above : (d : ℕ) (xs : List ℕ) → own_buds (suc d) (OPEN ∷ xs) ≡ own_buds (suc (suc d)) xs
unfolding own_buds
own_buds_open_above d xs = ap (count BUD) (open_above d xs)

pub own_buds_close_here : (xs : List ℕ) → own_buds 0 (CLOSE ∷ xs) ≡ 0
unfolding own_buds
own_buds_close_here xs = refl

pub own_buds_close_above : (d : ℕ) (xs : List ℕ) → own_buds (suc d) (CLOSE ∷ xs) ≡ own_buds d xs
unfolding own_buds
own_buds_close_above d xs = ap (count BUD) (close_above d xs)
