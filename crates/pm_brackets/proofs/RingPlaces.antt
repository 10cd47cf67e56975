-- The places of a ring that is read from a place on, its letters and its brackets.
use Rattle.std.proofs.Common.{◌≡◌, ◌⊎◌, ℕ, ◌+◌, ◌-◌, ◌%◌, ◌≤◌, ◌<◌, inl, inr, List, length, slice_index, refl, ap, sym, ◌∙◌, subst, arith}
use Rattle.std.proofs.lemmas.Bool.{cases_eq, cases_order}
use Rattle.std.proofs.lemmas.List.{ext_get_or}
use Rattle.std.proofs.Math.Nat.{add-mod-mod, mod-add-mod, add-mod_right}
use Rattle.pm_brackets.specs.declared.letters.TheConstants.{OPEN, CLOSE}
use Rattle.pm_brackets.specs.Word.{IsBracketPair, IsBracketing}
use Rattle.pm_brackets.specs.Ring.{place_from, AreBrackets, IsTurned}
use Rattle.pm_brackets.specs.steps.TurnedLetter.{IsTurnedLetter}
use Rattle.pm_brackets.specs.Word.{IsOther}
use Rattle.pm_brackets.proofs.Nesting.{one_closer, one_opener, other_below}

pub mod_stays : (k n : ℕ) → k < n → k % n ≡ k
mod_stays k n l = grind arith

pub mod_under : (k n : ℕ) → 0 < n → k % n < n
mod_under k n l = grind arith

-- how many steps lead from a place to another one
pub steps_to : ℕ → ℕ → ℕ → ℕ
steps_to n start place = (place + (n - start)) % n

pub steps_to_is : (n start place : ℕ) → steps_to n start place ≡ (place + (n - start)) % n
unfolding steps_to
steps_to_is n start place = refl

pub steps_under : (n start place : ℕ) → 0 < n → steps_to n start place < n
unfolding steps_to
steps_under n start place l = mod_under (place + (n - start)) n l

pub steps_lead : (n start place : ℕ) → start ≤ n → place < n → (start + steps_to n start place) % n ≡ place
unfolding steps_to
steps_lead n start place l m =
    let e : start + (place + (n - start)) ≡ place + n = omega arith in
    add-mod-mod start (place + (n - start)) n ∙ ap (λ (k : ℕ). k % n) e ∙ add-mod_right place n ∙ mod_stays place n m

pub steps_are : (n start p : ℕ) → start ≤ n → p < n → steps_to n start ((start + p) % n) ≡ p
unfolding steps_to
steps_are n start p l m =
    let e : start + p + (n - start) ≡ p + n = omega arith in
    mod-add-mod (start + p) n (n - start) ∙ ap (λ (k : ℕ). k % n) e ∙ add-mod_right p n ∙ mod_stays p n m

-- the steps that lead from a place to 0 lead from their number to the place
pub steps_back : (n place : ℕ) → place < n → steps_to n (steps_to n place 0) 0 ≡ place
steps_back n place l =
    let under : steps_to n place 0 < n = steps_under n place 0 (omega arith) in
    let e : steps_to n place 0 + place ≡ place + steps_to n place 0 = omega arith in
    let home : (steps_to n place 0 + place) % n ≡ 0 = ap (λ (k : ℕ). k % n) e ∙ steps_lead n place 0 (omega arith) (omega arith) in
    ap (steps_to n (steps_to n place 0)) (sym home) ∙ steps_are n (steps_to n place 0) place (omega arith) l

pub flipped : (xs : List ℕ) (p q : ℕ) → AreBrackets xs p q → AreBrackets xs q p
flipped xs p q h = elim h [ inl a ↦ inr a | inr a ↦ inl a ]

pub are_at : (xs : List ℕ) (p q r s : ℕ) → p ≡ r → q ≡ s → AreBrackets xs p q → AreBrackets xs r s
are_at xs p q r s e f h =
    let P : ℕ → Type 0 = λ k. AreBrackets xs k q in
    let Q : ℕ → Type 0 = λ k. AreBrackets xs r k in
    subst Q f (subst P e h)

pub in_order : (xs : List ℕ) (p q : ℕ) → p < q → AreBrackets xs p q → IsBracketPair xs p q
in_order xs p q l h = elim h [ inl a ↦ a | inr a ↦ absurd (let b = a.before in omega arith) ]

-- a bracket has one other
pub one_other : (xs : List ℕ) (p q r : ℕ) → AreBrackets xs p q → AreBrackets xs p r → q ≡ r
one_other xs p q r h i = elim h [
  | inl a ↦ elim i [
    | inl b ↦ one_closer xs p q r a b
    | inr b ↦ absurd (let x = a.opens in let y = b.closes in omega arith)
  ]
  | inr a ↦ elim i [
    | inl b ↦ absurd (let x = a.closes in let y = b.opens in omega arith)
    | inr b ↦ one_opener xs q p r a b
  ]
]

pub not_itself : (xs : List ℕ) (p q : ℕ) → p ≡ q → AreBrackets xs p q → ⊥
not_itself xs p q e h = elim h [ inl a ↦ (let b = a.before in omega arith) | inr a ↦ (let b = a.before in omega arith) ]

pub no_other : (xs : List ℕ) (p q : ℕ) → IsOther (slice_index xs p) → AreBrackets xs p q → ⊥
no_other xs p q o h = elim h [ inl a ↦ o.not_open a.opens | inr a ↦ o.not_close a.closes ]

-- no bracket, or a bracket and the steps to its other
pub record IsMet (xs : List ℕ) (start p : ℕ) : Type 0 where
  pub steps : ℕ
  pub under : steps < length xs
  pub brackets : AreBrackets xs (place_from xs start p) (place_from xs start steps)

pub data IsStep (xs : List ℕ) (start p : ℕ) : Type 0 where
  plain : IsOther (slice_index xs (place_from xs start p)) → IsStep xs start p
  with_other : IsMet xs start p → IsStep xs start p

pub other_of : (xs other : List ℕ) (p : ℕ) → IsBracketing xs other → p < length xs → IsOther (slice_index xs p) ⊎ AreBrackets xs p (slice_index other p)
other_of xs other p b l =
    elim (cases_eq (slice_index xs p) OPEN) [
      | inl o ↦ inr (inl (b.of_open p o))
      | inr no_open ↦ elim (cases_eq (slice_index xs p) CLOSE) [
        | inl c ↦ inr (inr (b.of_close p c))
        | inr no_close ↦ inl (record { not_open = no_open; not_close = no_close })
      ]
    ]

pub step_of : (xs other : List ℕ) (start p : ℕ) → IsBracketing xs other → start ≤ length xs → p < length xs → IsStep xs start p
step_of xs other start p b l m =
    let here : place_from xs start p < length xs = mod_under (start + p) (length xs) (omega arith) in
    elim (other_of xs other (place_from xs start p) b here) [
      | inl o ↦ plain o
      | inr a ↦
          let there : slice_index other (place_from xs start p) < length xs = other_below xs other (place_from xs start p) b here in
          with_other (record {
            steps = steps_to (length xs) start (slice_index other (place_from xs start p));
            under = steps_under (length xs) start (slice_index other (place_from xs start p)) (omega arith);
            brackets = are_at xs (place_from xs start p) (slice_index other (place_from xs start p)) (place_from xs start p) (place_from xs start (steps_to (length xs) start (slice_index other (place_from xs start p)))) refl
                (sym (steps_lead (length xs) start (slice_index other (place_from xs start p)) l there)) a;
          })
    ]

pub turned_letters : (xs turned : List ℕ) (start p : ℕ) → IsTurned xs start turned → p < length xs → IsTurnedLetter xs start p (slice_index turned p)
turned_letters xs turned start p t l = record {
  kept = λ a b. t.letters p l a b;
  opens = λ q m h a. (t.brackets p q m h a).opens;
  closes = λ q m a. (t.brackets q p m l (flipped xs (place_from xs start p) (place_from xs start q) a)).closes;
}

pub one_letter : (xs other : List ℕ) (start p x y : ℕ) → IsBracketing xs other → start ≤ length xs → p < length xs → IsTurnedLetter xs start p x → IsTurnedLetter xs start p y → x ≡ y
one_letter xs other start p x y b l m s t =
    elim (step_of xs other start p b l m) [
      | plain o ↦ s.kept o.not_open o.not_close ∙ sym (t.kept o.not_open o.not_close)
      | with_other h ↦ elim (cases_order p h.steps) [
        | inl e ↦ absurd (not_itself xs (place_from xs start p) (place_from xs start h.steps) (ap (place_from xs start) e) h.brackets)
        | inr n ↦ elim n [
          | inl k ↦ s.opens h.steps k h.under h.brackets ∙ sym (t.opens h.steps k h.under h.brackets)
          | inr k ↦ s.closes h.steps k h.brackets ∙ sym (t.closes h.steps k h.brackets)
        ]
      ]
    ]

-- a letter that is kept
pub plain_letter : (xs : List ℕ) (start p x : ℕ) → IsOther (slice_index xs (place_from xs start p)) → x ≡ slice_index xs (place_from xs start p) → IsTurnedLetter xs start p x
plain_letter xs start p x o e = record {
  kept = λ _ _. e;
  opens = λ q _ _ a. absurd (no_other xs (place_from xs start p) (place_from xs start q) o a);
  closes = λ q _ a. absurd (no_other xs (place_from xs start p) (place_from xs start q) o a);
}

-- there is one such ring
pub one_ring : (xs other one two : List ℕ) (start : ℕ) → IsBracketing xs other → start ≤ length xs → length one ≡ length xs → ((p : ℕ) → p < length xs → IsTurnedLetter xs start p (slice_index one p)) → IsTurned xs start two → one ≡ two
one_ring xs other one two start b l e h t =
    ext_get_or 0 one two (let f = t.as_long in omega arith) (λ p m.
    one_letter xs other start p (slice_index one p) (slice_index two p) b l (omega arith) (h p (omega arith)) (turned_letters xs two start p t (omega arith)))

-- the brackets of the ring are those of the old one
turned_brackets : (xs turned : List ℕ) (start p q : ℕ) → IsTurned xs start turned → p < length xs → q < length xs → AreBrackets xs (place_from xs start p) (place_from xs start q) → AreBrackets turned p q
turned_brackets xs turned start p q t l m a =
    elim (cases_order p q) [
      | inl e ↦ absurd (not_itself xs (place_from xs start p) (place_from xs start q) (ap (place_from xs start) e) a)
      | inr n ↦ elim n [
        | inl h ↦ inl (t.brackets p q h m a)
        | inr h ↦ inr (t.brackets q p h l (flipped xs (place_from xs start p) (place_from xs start q) a))
      ]
    ]

pub brackets_back : (xs other turned : List ℕ) (start p q : ℕ) → IsBracketing xs other → start ≤ length xs → IsTurned xs start turned → p < length xs → AreBrackets turned p q → AreBrackets xs (place_from xs start p) (place_from xs start q)
brackets_back xs other turned start p q b s t l a =
    elim (step_of xs other start p b s l) [
      | plain o ↦
          let e = t.letters p l o.not_open o.not_close in
          absurd (no_other turned p q (record { not_open = λ w. o.not_open (sym e ∙ w); not_close = λ w. o.not_close (sym e ∙ w) }) a)
      | with_other h ↦
          let there = turned_brackets xs turned start p h.steps t l h.under h.brackets in
          let e : h.steps ≡ q = one_other turned p h.steps q there a in
          are_at xs (place_from xs start p) (place_from xs start h.steps) (place_from xs start p) (place_from xs start q) refl (ap (place_from xs start) e) h.brackets
    ]

-- a letter of the ring that is no bracket was none
pub letter_back : (xs other turned : List ℕ) (start p : ℕ) → IsBracketing xs other → start ≤ length xs → IsTurned xs start turned → p < length xs → IsOther (slice_index turned p) → slice_index turned p ≡ slice_index xs (place_from xs start p)
letter_back xs other turned start p b s t l o =
    elim (step_of xs other start p b s l) [
      | plain w ↦ t.letters p l w.not_open w.not_close
      | with_other h ↦ absurd (no_other turned p h.steps o (turned_brackets xs turned start p h.steps t l h.under h.brackets))
    ]

-- reading the ring from where the old one began gives the old one
back_at : (n start p : ℕ) → start ≤ n → p < n → (start + (steps_to n start 0 + p) % n) % n ≡ p
back_at n start p l m =
    let e : start + (steps_to n start 0 + p) ≡ start + steps_to n start 0 + p = omega arith in
    let f = steps_lead n start 0 l (omega arith) in
    let g : 0 + p ≡ p = omega arith in
    add-mod-mod start (steps_to n start 0 + p) n ∙ ap (λ (k : ℕ). k % n) e ∙ sym (mod-add-mod (start + steps_to n start 0) n p)
    ∙ ap (λ (k : ℕ). (k + p) % n) f ∙ ap (λ (k : ℕ). k % n) g ∙ mod_stays p n m

pub turned_back : (xs other turned : List ℕ) (start : ℕ) → IsBracketing xs other → start ≤ length xs → IsTurned xs start turned → IsTurned turned (steps_to (length xs) start 0) xs
turned_back xs other turned start b s t =
    let n : ℕ = length xs in
    let same : length turned ≡ length xs = t.as_long in
    let from : (p : ℕ) → ℕ = λ p. place_from turned (steps_to (length xs) start 0) p in
    let under : (p : ℕ) → p < length xs → from p < length xs = λ p l. under_same (steps_to (length xs) start 0 + p) (length turned) (length xs) same (omega arith) in
    let back : (p : ℕ) → p < length xs → place_from xs start (from p) ≡ p = λ p l.
    ap (λ (k : ℕ). (start + (steps_to (length xs) start 0 + p) % k) % length xs) same ∙ back_at (length xs) start p s l in
    record {
      as_long = sym same;
      letters = λ p l no_open no_close.
          sym (letter_back xs other turned start (from p) b s t (under p (omega arith)) (record { not_open = no_open; not_close = no_close }) ∙ ap (slice_index xs) (back p (omega arith)));
      brackets = λ p q l m a.
          in_order xs p q l (are_at xs (place_from xs start (from p)) (place_from xs start (from q)) p q (back p (omega arith)) (back q (omega arith))
          (brackets_back xs other turned start (from p) (from q) b s t (under p (omega arith)) a));
    } where
      under_same : (k m n : ℕ) → m ≡ n → 0 < n → k % m < n
      under_same k m n e l = grind arith
