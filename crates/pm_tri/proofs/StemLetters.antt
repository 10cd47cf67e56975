-- The letters of a stem tree's word: each is one of the three, and the plant is a letter that is no bracket.
use Rattle.std.proofs.Common.{◌≡◌, ℕ, ◌<◌, ◌==◌, ◌||◌, false, inl, inr, List, [], ◌∷◌, length, slice_index, IsTrue, refl, sym, arith, eqb-true}
use Rattle.std.proofs.lemmas.Bool.{or_cases, false≢true}
use Rattle.pm_brackets.specs.declared.letters.TheConstants.{OPEN, CLOSE}
use Rattle.pm_brackets.specs.Word.{IsOther, is_letter_of}
use Rattle.pm_brackets.proofs.Stack as texts
use Rattle.pm_tri.specs.declared.letters.TheConstants.{STEM}
use Rattle.pm_tri.specs.StemTree.{IsFault, IsInOrder, contour}

pub stem_is_other : IsOther STEM
stem_is_other = record { not_open = λ e. omega arith; not_close = λ e. omega arith }

-- a letter that is no bracket is a stem
stem_from : (x : ℕ) → IsTrue (is_letter_of (STEM ∷ []) x) → IsOther x → x ≡ STEM
stem_from x h o =
    elim (or_cases ((x == OPEN) || (x == CLOSE)) ((STEM == x) || false) h) [
      | inl a ↦ elim (or_cases (x == OPEN) (x == CLOSE) a) [
        | inl b ↦ absurd (o.not_open (eqb-true x OPEN b))
        | inr b ↦ absurd (o.not_close (eqb-true x CLOSE b))
      ]
      | inr a ↦ elim (or_cases (STEM == x) false a) [
        | inl b ↦ sym (eqb-true STEM x b)
        | inr b ↦ absurd (false≢true b)
      ]
    ]

pub letter_is_stem : (word : List ℕ) (i : ℕ) → IsInOrder word → i < length word → IsOther (slice_index word i) → slice_index word i ≡ STEM
letter_is_stem word i order l o = stem_from (slice_index word i) (order.letters i 0 l) o

-- a word that is in order has no fault
pub no_fault : (word : List ℕ) (k : ℕ) → IsInOrder word → IsFault (contour word) k → ⊥
no_fault word k order fault = texts.no_fault (STEM ∷ []) STEM stem_is_other refl word k order fault
