-- The words of two letters in dictionary order: the word of a number, the number of a word, and that they undo each
-- other and keep the order.
use Rattle.std.proofs.Common.{◌≡◌, ℕ, zero, suc, ◌+◌, ◌-◌, ◌≤◌, ◌<◌, ◌⊎◌, ◌==◌, inl, inr, cond, List, [], ◌∷◌, length, refl, ap, sym, ◌∙◌, subst, arith, eq-eqb, ne_eqb, nat_lt}
use Rattle.std.proofs.lemmas.Bool.{cases_lt, lt-ltb, le-ltb, cond-true, cond-false}
use Rattle.pm_trees.specs.declared.letters.TheConstants.{BUD}
use Rattle.pm_trees.specs.declared.patterns.TheConstants.{SLOT}
use Rattle.pm_trees.specs.Binomial.{choose}
use Rattle.pm_trees.specs.BudPattern.{IsBefore}
use Rattle.pm_trees.proofs.Binomials.{choose_none, choose_past, pascal, choose_more}
use Rattle.pm_brackets.proofs.Tally.{tally, tally-nil, tally_yes, tally_no}

-- each letter is a bud or a slot
abbrev pub IsTwo : List ℕ → Type 0
IsTwo [] = Unit {0}
IsTwo (x ∷ xs) = ((x ≡ BUD) ⊎ (x ≡ SLOT)) × IsTwo xs

-- a word of n letters with s slots
pub record IsOf (n s : ℕ) (w : List ℕ) : Type 0 where
  pub two : IsTwo w
  pub long : length w ≡ n
  pub slots : tally SLOT w ≡ s

of_nil : IsOf 0 0 []
of_nil = record { two = tt; long = refl; slots = tally-nil SLOT }

of_bud : (n s : ℕ) (xs : List ℕ) → IsOf n s xs → IsOf (suc n) s (BUD ∷ xs)
of_bud n s xs h = record {
  two = (inl refl, h.two);
  long = omega (arith, h.long);
  slots = let a = tally_no SLOT BUD xs (λ e. omega arith) in omega (arith, a, h.slots);
}

of_slot : (n s t : ℕ) (xs : List ℕ) → s ≡ suc t → IsOf n t xs → IsOf (suc n) s (SLOT ∷ xs)
of_slot n s t xs e h = record {
  two = (inr refl, h.two);
  long = omega (arith, h.long);
  slots = let a = tally_yes SLOT SLOT xs refl in omega (arith, a, h.slots);
}

-- how a word begins
pub data Head (x : ℕ) (xs : List ℕ) (n s : ℕ) : Type 0 where
  bud_first : x ≡ BUD → IsOf n s xs → Head x xs n s
  slot_first : (t : ℕ) → x ≡ SLOT → s ≡ suc t → IsOf n t xs → Head x xs n s

pub head_cases : (x : ℕ) (xs : List ℕ) (n s : ℕ) → IsOf (suc n) s (x ∷ xs) → Head x xs n s
head_cases x xs n s h =
    elim h.two.0 [
      | inl e ↦ bud_first e (record {
        two = h.two.1;
        long = omega (arith, h.long);
        slots = let a = tally_no SLOT x xs (λ f. omega arith) in omega (arith, a, h.slots);
      })
      | inr e ↦
          let a = tally_yes SLOT x xs e in
          slot_first (tally SLOT xs) e (omega (arith, a, h.slots)) (record { two = h.two.1; long = omega (arith, h.long); slots = refl })
    ]

pascal_at : (n s t : ℕ) → s ≡ suc t → choose (suc n) s ≡ choose n t + choose n s
pascal_at n s t e = subst (λ (k : ℕ). choose (suc n) k ≡ choose n t + choose n k) (sym e) (pascal n t)

-- the word of a number
pub word_of : ℕ → ℕ → ℕ → List ℕ
word_of zero s r = []
word_of (suc n) s r = cond (nat_lt r (choose n s)) (BUD ∷ word_of n s r) (SLOT ∷ word_of n (s - 1) (r - choose n s))

-- those of the three numbers of words of three letters with two slots
pub quartic_words : (word_of 3 2 0 ≡ BUD ∷ SLOT ∷ SLOT ∷ []) × (word_of 3 2 1 ≡ SLOT ∷ BUD ∷ SLOT ∷ []) × (word_of 3 2 2 ≡ SLOT ∷ SLOT ∷ BUD ∷ [])
unfolding word_of choose
quartic_words = (refl, refl, refl)

pub word_of_none : (s r : ℕ) → word_of 0 s r ≡ []
unfolding word_of
word_of_none s r = refl

pub word_of_low : (n s r : ℕ) → r < choose n s → word_of (suc n) s r ≡ BUD ∷ word_of n s r
unfolding word_of
word_of_low n s r h = cond-true _ _ _ (lt-ltb r (choose n s) h)

pub word_of_high : (n s t r : ℕ) → s ≡ suc t → choose n s ≤ r → word_of (suc n) s r ≡ SLOT ∷ word_of n t (r - choose n s)
unfolding word_of
word_of_high n s t r e h =
    let f : s - 1 ≡ t = omega arith in
    cond-false _ _ _ (le-ltb r (choose n s) h) ∙ ap (λ (k : ℕ). SLOT ∷ word_of n k (r - choose n s)) f

-- on which side of the share a number is
pub data Side (n s r : ℕ) : Type 0 where
  low : r < choose n s → Side n s r
  high : (t : ℕ) → s ≡ suc t → choose n s ≤ r → r - choose n s < choose n t → Side n s r

pub side_cases : (n s r : ℕ) → r < choose (suc n) s → Side n s r
side_cases n zero r h = let a = choose_none n in let b = choose_none (suc n) in low (omega (arith, a, b))
side_cases n (suc t) r h =
    elim (cases_lt r (choose n (suc t))) [
      | inl l ↦ low l
      | inr g ↦ let a = pascal n t in high t refl g (omega (arith, a))
    ]

-- the number of a word
pub number_of : List ℕ → ℕ
number_of [] = 0
number_of (x ∷ xs) = cond (x == BUD) (number_of xs) (choose (length xs) (suc (tally SLOT xs)) + number_of xs)

pub number_of_none : number_of [] ≡ 0
unfolding number_of
number_of_none = refl

pub number_of_bud : (x : ℕ) (xs : List ℕ) → x ≡ BUD → number_of (x ∷ xs) ≡ number_of xs
unfolding number_of
number_of_bud x xs e = cond-true _ _ _ (eq-eqb x BUD e)

pub number_of_slot : (x : ℕ) (xs : List ℕ) (n s t : ℕ) → x ≡ SLOT → s ≡ suc t → IsOf n t xs → number_of (x ∷ xs) ≡ choose n s + number_of xs
unfolding number_of
number_of_slot x xs n s t e f h =
    let a : suc (tally SLOT xs) ≡ s = omega (arith, h.slots) in
    cond-false _ _ _ (ne_eqb x BUD (λ k. omega arith))
    ∙ ap (λ (k : ℕ). choose (length xs) k + number_of xs) a
    ∙ ap (λ (k : ℕ). choose k s + number_of xs) h.long

pub number_below : (w : List ℕ) (n s : ℕ) → IsOf n s w → number_of w < choose n s
number_below [] zero zero h = let a = choose_none 0 in let b = number_of_none in omega (arith, a, b)
number_below [] zero (suc s) h = absurd (let a = tally-nil SLOT in omega (arith, a, h.slots))
number_below [] (suc n) s h = absurd (omega (arith, h.long))
number_below (x ∷ xs) zero s h = absurd (omega (arith, h.long))
number_below (x ∷ xs) (suc n) s h =
    elim (head_cases x xs n s h) [
      | bud_first e t ↦
          let a = number_below xs n s t in
          let b = number_of_bud x xs e in
          let c = choose_more n s in
          omega (arith, a, b, c)
      | slot_first t e f k ↦
          let a = number_below xs n t k in
          let b = number_of_slot x xs n s t e f k in
          let c = pascal_at n s t f in
          omega (arith, a, b, c)
    ]

pub word_of_is : (n s r : ℕ) → r < choose n s → IsOf n s (word_of n s r)
word_of_is zero zero r h = subst (IsOf 0 0) (sym (word_of_none 0 r)) of_nil
word_of_is zero (suc s) r h = absurd (let a = choose_past s in omega (arith, a))
word_of_is (suc n) s r h =
    elim (side_cases n s r h) [
      | low l ↦ subst (IsOf (suc n) s) (sym (word_of_low n s r l)) (of_bud n s _ (word_of_is n s r l))
      | high t e g l ↦ subst (IsOf (suc n) s) (sym (word_of_high n s t r e g)) (of_slot n s t _ e (word_of_is n t (r - choose n s) l))
    ]

pub number_of_word : (n s r : ℕ) → r < choose n s → number_of (word_of n s r) ≡ r
number_of_word zero zero r h =
    let a = choose_none 0 in
    ap number_of (word_of_none 0 r) ∙ number_of_none ∙ omega (arith, a)
number_of_word zero (suc s) r h = absurd (let a = choose_past s in omega (arith, a))
number_of_word (suc n) s r h =
    elim (side_cases n s r h) [
      | low l ↦ ap number_of (word_of_low n s r l) ∙ number_of_bud BUD _ refl ∙ number_of_word n s r l
      | high t e g l ↦
          let a = ap number_of (word_of_high n s t r e g) in
          let b = number_of_slot SLOT _ n s t refl e (word_of_is n t (r - choose n s) l) in
          let c = number_of_word n t (r - choose n s) l in
          omega (arith, a, b, c)
    ]

pub word_of_number : (w : List ℕ) (n s : ℕ) → IsOf n s w → word_of n s (number_of w) ≡ w
word_of_number [] zero s h = word_of_none s _
word_of_number [] (suc n) s h = absurd (omega (arith, h.long))
word_of_number (x ∷ xs) zero s h = absurd (omega (arith, h.long))
word_of_number (x ∷ xs) (suc n) s h =
    elim (head_cases x xs n s h) [
      | bud_first e t ↦
          let a = number_of_bud x xs e in
          let b = number_below xs n s t in
          word_of_low n s (number_of (x ∷ xs)) (omega (arith, a, b))
          ∙ ap (λ (k : ℕ). BUD ∷ word_of n s k) a
          ∙ ap (λ (l : List ℕ). BUD ∷ l) (word_of_number xs n s t)
          ∙ ap (λ (k : ℕ). k ∷ xs) (sym e)
      | slot_first t e f k ↦
          let a = number_of_slot x xs n s t e f k in
          let b : number_of (x ∷ xs) - choose n s ≡ number_of xs = omega (arith, a) in
          word_of_high n s t (number_of (x ∷ xs)) f (omega (arith, a))
          ∙ ap (λ (k : ℕ). SLOT ∷ word_of n t k) b
          ∙ ap (λ (l : List ℕ). SLOT ∷ l) (word_of_number xs n t k)
          ∙ ap (λ (k : ℕ). k ∷ xs) (sym e)
    ]

-- an earlier word has the smaller number
pub number_rises : (v w : List ℕ) (n s : ℕ) → IsOf n s v → IsOf n s w → IsBefore v w → number_of v < number_of w
number_rises [] [] n s h k b = absurd b
number_rises [] (y ∷ ys) n s h k b = absurd (omega (arith, h.long, k.long))
number_rises (x ∷ xs) [] n s h k b = absurd b
number_rises (x ∷ xs) (y ∷ ys) zero s h k b = absurd (omega (arith, h.long))
number_rises (x ∷ xs) (y ∷ ys) (suc n) s h k b =
    elim (head_cases x xs n s h) [
      | bud_first e p ↦
          let a = number_of_bud x xs e in
          elim (head_cases y ys n s k) [
            | bud_first f q ↦
                let c = number_of_bud y ys f in
                elim b [
                  | inl l ↦ absurd (omega arith)
                  | inr m ↦ let d = number_rises xs ys n s p q m.1 in omega (arith, a, c, d)
                ]
            | slot_first t f g q ↦
                let c = number_of_slot y ys n s t f g q in
                let d = number_below xs n s p in
                omega (arith, a, c, d)
          ]
      | slot_first t e g p ↦
          let a = number_of_slot x xs n s t e g p in
          elim (head_cases y ys n s k) [
            | bud_first f q ↦ elim b [ inl l ↦ absurd (omega arith) | inr m ↦ absurd (let d = m.0 in omega arith) ]
            | slot_first u f i q ↦
                let c = number_of_slot y ys n s u f i q in
                let j : u ≡ t = omega arith in
                let r : IsOf n t ys = subst (λ (z : ℕ). IsOf n z ys) j q in
                elim b [
                  | inl l ↦ absurd (omega arith)
                  | inr m ↦ let d = number_rises xs ys n t p r m.1 in omega (arith, a, c, d)
                ]
          ]
    ]

-- a word with a smaller number stands before
pub number_orders : (v w : List ℕ) (n s : ℕ) → IsOf n s v → IsOf n s w → number_of v < number_of w → IsBefore v w
number_orders [] [] n s h k b = absurd (omega arith)
number_orders [] (y ∷ ys) n s h k b = absurd (omega (arith, h.long, k.long))
number_orders (x ∷ xs) [] n s h k b = absurd (omega (arith, h.long, k.long))
number_orders (x ∷ xs) (y ∷ ys) zero s h k b = absurd (omega (arith, h.long))
number_orders (x ∷ xs) (y ∷ ys) (suc n) s h k b =
    elim (head_cases x xs n s h) [
      | bud_first e p ↦
          let a = number_of_bud x xs e in
          elim (head_cases y ys n s k) [
            | bud_first f q ↦
                let c = number_of_bud y ys f in
                inr (omega arith, number_orders xs ys n s p q (omega (arith, a, c)))
            | slot_first t f g q ↦ inl (omega arith)
          ]
      | slot_first t e g p ↦
          let a = number_of_slot x xs n s t e g p in
          elim (head_cases y ys n s k) [
            | bud_first f q ↦
                let c = number_of_bud y ys f in
                let d = number_below ys n s q in
                absurd (omega (arith, a, c, d))
            | slot_first u f i q ↦
                let c = number_of_slot y ys n s u f i q in
                let j : u ≡ t = omega arith in
                let r : IsOf n t ys = subst (λ (z : ℕ). IsOf n z ys) j q in
                inr (omega arith, number_orders xs ys n t p r (omega (arith, a, c)))
          ]
    ]
