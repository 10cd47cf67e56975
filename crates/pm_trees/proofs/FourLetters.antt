-- The letters of a tree's word: each is one of the four, and the plant is a letter that is no bracket. So what holds of words of
-- brackets on a plant holds of it.
use Rattle.std.proofs.Common.{◌≡◌, ℕ, ◌<◌, ◌==◌, ◌||◌, false, inl, inr, List, length, slice_index, All, IsTrue, refl, sym, arith, eqb-true}
use Rattle.std.proofs.lemmas.Bool.{or_cases, false≢true}
use Rattle.pm_trees.specs.declared.letters.TheConstants.{LEAF, BUD}
use Rattle.pm_brackets.specs.declared.letters.TheConstants.{OPEN, CLOSE}
use Rattle.pm_brackets.specs.Word.{IsOther, IsBracketing}
use Rattle.pm_trees.specs.Word.{contour, is_letter, leaf_and_bud, IsInOrder, IsFault}
use Rattle.pm_brackets.proofs.Bracketed as words
use Rattle.pm_brackets.proofs.Stack as texts

-- a letter is one of the four
pub data IsOneOf (x : ℕ) : Type 0 where
  a_leaf : x ≡ LEAF → IsOneOf x
  a_bud : x ≡ BUD → IsOneOf x
  an_open : x ≡ OPEN → IsOneOf x
  a_close : x ≡ CLOSE → IsOneOf x

pub letter_cases : (x : ℕ) → IsTrue (is_letter x) → IsOneOf x
letter_cases x h =
    elim (or_cases ((x == OPEN) || (x == CLOSE)) ((LEAF == x) || ((BUD == x) || false)) h) [
      | inl a ↦ elim (or_cases (x == OPEN) (x == CLOSE) a) [
        | inl b ↦ an_open (eqb-true x OPEN b)
        | inr b ↦ a_close (eqb-true x CLOSE b)
      ]
      | inr a ↦ elim (or_cases (LEAF == x) ((BUD == x) || false) a) [
        | inl b ↦ a_leaf (sym (eqb-true LEAF x b))
        | inr b ↦ elim (or_cases (BUD == x) false b) [
          | inl c ↦ a_bud (sym (eqb-true BUD x c))
          | inr c ↦ absurd (false≢true c)
        ]
      ]
    ]

pub leaf_is_other : IsOther LEAF
leaf_is_other = record { not_open = λ e. omega arith; not_close = λ e. omega arith }

pub letters_at : (word : List ℕ) (k : ℕ) → All (λ x. IsTrue (is_letter x)) word → k < length (contour word) → IsTrue (is_letter (slice_index (contour word) k))
letters_at word k all l = texts.letters_at leaf_and_bud LEAF refl word k all l

-- a word that is in order has no fault
pub no_fault : (word : List ℕ) (k : ℕ) → IsInOrder word → IsFault (contour word) k → ⊥
no_fault word k order fault = texts.no_fault leaf_and_bud LEAF leaf_is_other refl word k order fault

-- and has its list of the other brackets
pub bracketing_exists : (word : List ℕ) → IsInOrder word → (other : List ℕ) × IsBracketing (contour word) other
bracketing_exists word order = words.bracketing_exists LEAF leaf_is_other word order.matched
