-- How many brackets stand before a place, and stretches between two places whose brackets match.
use Rattle.std.proofs.Common.{◌≡◌, ℕ, suc, ◌+◌, ◌-◌, ◌≤◌, ◌<◌, inl, inr, List, [], ◌∷◌, ◌++◌, length, take, drop, slice_index, get_or, refl, ap, ◌∙◌, sym, arith, add-one, take-add, take-take, take_all, length-take}
use Rattle.std.proofs.lemmas.Bool.{cases_lt, cases_eq}
use Rattle.std.proofs.lemmas.List.{take_more, get_or_past}
use Rattle.pm_brackets.specs.declared.letters.TheConstants.{OPEN, CLOSE}
use Rattle.pm_brackets.specs.Word.{count, between, IsMatched, IsBracketPair}
use Rattle.pm_brackets.proofs.Tally.{tally, tally_is, tally-nil, tally_yes, tally_no, tally-append}
use Rattle.pm_brackets.specs.Word.{IsOther}

-- how often the letter stands before the place
pub seen : ℕ → List ℕ → ℕ → ℕ
seen letter places k = tally letter (take k places)

pub seen_is : (letter : ℕ) (places : List ℕ) (k : ℕ) → seen letter places k ≡ tally letter (take k places)
unfolding seen
seen_is letter places k = refl

pub seen_none : (letter : ℕ) (places : List ℕ) → seen letter places 0 ≡ 0
unfolding seen
seen_none letter places = tally-nil letter

-- a place past the end has no letter
pub inside : (places : List ℕ) (k x : ℕ) → 0 < x → slice_index places k ≡ x → k < length places
inside places k x p h =
    elim (cases_lt k (length places)) [ inl l ↦ l | inr g ↦ absurd (let e = get_or_past places k 0 g in omega (arith, e)) ]

one_more : (letter : ℕ) (places : List ℕ) (k : ℕ) → k < length places → tally letter (take (suc k) places) ≡ tally letter (take k places) + tally letter (get_or places k 0 ∷ [])
one_more letter places k h =
    let e : take (suc k) places ≡ take k places ++ get_or places k 0 ∷ [] = ap (λ (n : ℕ). take n places) (sym (add-one k)) ∙ take_more places k 0 h in
    ap (tally letter) e ∙ tally-append letter (take k places) (get_or places k 0 ∷ [])

-- the letter stands at a place of the list
pub seen_here : (letter : ℕ) (places : List ℕ) (k : ℕ) → k < length places → slice_index places k ≡ letter → seen letter places (suc k) ≡ suc (seen letter places k)
unfolding seen
seen_here letter places k l h =
    let a = one_more letter places k l in
    let b = tally_yes letter (get_or places k 0) [] h in
    let d = tally-nil letter in
    omega (arith, a, b, d)

pub seen_yes : (letter : ℕ) (places : List ℕ) (k : ℕ) → 0 < letter → slice_index places k ≡ letter → seen letter places (suc k) ≡ suc (seen letter places k)
seen_yes letter places k p h = seen_here letter places k (inside places k letter p h) h

pub seen_no : (letter : ℕ) (places : List ℕ) (k : ℕ) → (slice_index places k ≡ letter → ⊥) → seen letter places (suc k) ≡ seen letter places k
unfolding seen
seen_no letter places k h =
    elim (cases_lt k (length places)) [
      | inl l ↦
          let a = one_more letter places k l in
          let b = tally_no letter (get_or places k 0) [] h in
          let d = tally-nil letter in
          omega (arith, a, b, d)
      | inr g ↦
          let a : take (suc k) places ≡ places = take_all (suc k) places (omega arith) in
          let b : take k places ≡ places = take_all k places g in
          ap (tally letter) (a ∙ sym b)
    ]

-- the brackets strictly between the two places match
pub record IsEven (places : List ℕ) (p q : ℕ) : Type 0 where
  pub equal : seen OPEN places q + seen CLOSE places (suc p) ≡ seen CLOSE places q + seen OPEN places (suc p)
  pub below : (j : ℕ) → suc p ≤ j → j ≤ q → seen CLOSE places j + seen OPEN places (suc p) ≤ seen OPEN places j + seen CLOSE places (suc p)

seen_between : (letter : ℕ) (places : List ℕ) (p q k : ℕ) → k ≤ q - suc p → tally letter (take k (between places p q)) + seen letter places (suc p) ≡ seen letter places (suc p + k)
unfolding seen
seen_between letter places p q k h =
    let a : take k (between places p q) ≡ take k (drop (suc p) places) = take-take k (q - suc p) (drop (suc p) places) h in
    let b = ap (tally letter) (take-add (suc p) k places) in
    let d = tally-append letter (take (suc p) places) (take k (drop (suc p) places)) in
    let e = ap (tally letter) a in
    omega (arith, b, d, e)

between_all : (places : List ℕ) (p q k : ℕ) → q - suc p ≤ k → take k (between places p q) ≡ between places p q
between_all places p q k h =
    let l = length-take (q - suc p) (drop (suc p) places) in
    take_all k (between places p q) (omega (arith, l))

seen_whole : (letter : ℕ) (places : List ℕ) (p q : ℕ) → p < q → tally letter (between places p q) + seen letter places (suc p) ≡ seen letter places q
seen_whole letter places p q h =
    let a = seen_between letter places p q (q - suc p) (omega arith) in
    let b = ap (tally letter) (between_all places p q (q - suc p) (omega arith)) in
    let e : suc p + (q - suc p) ≡ q = omega arith in
    let d = ap (seen letter places) e in
    omega (arith, a, b, d)

pub even_from_matched : (places : List ℕ) (p q : ℕ) → p < q → IsMatched (between places p q) → IsEven places p q
even_from_matched places p q h m = record {
  equal =
      let a = seen_whole OPEN places p q h in
      let b = seen_whole CLOSE places p q h in
      let d = tally_is OPEN (between places p q) in
      let e = tally_is CLOSE (between places p q) in
      omega (arith, a, b, d, e, m.equal);
  below = λ j l u.
      let k : ℕ = j - suc p in
      let e : suc p + k ≡ j = omega arith in
      let a = seen_between OPEN places p q k (omega arith) in
      let b = seen_between CLOSE places p q k (omega arith) in
      let d = tally_is OPEN (take k (between places p q)) in
      let f = tally_is CLOSE (take k (between places p q)) in
      let g = ap (seen OPEN places) e in
      let i = ap (seen CLOSE places) e in
      let n = m.never_below k in
      omega (arith, a, b, d, f, g, i, n);
}

pub matched_from_even : (places : List ℕ) (p q : ℕ) → p < q → IsEven places p q → IsMatched (between places p q)
matched_from_even places p q h m =
    let w = seen_whole OPEN places p q h in
    let x = seen_whole CLOSE places p q h in
    let y = tally_is OPEN (between places p q) in
    let z = tally_is CLOSE (between places p q) in
    let same : count OPEN (between places p q) ≡ count CLOSE (between places p q) = omega (arith, w, x, y, z, m.equal) in
    record {
      equal = same;
      never_below = λ k.
          elim (cases_lt k (q - suc p)) [
            | inl l ↦
                let a = seen_between OPEN places p q k (omega arith) in
                let b = seen_between CLOSE places p q k (omega arith) in
                let d = tally_is OPEN (take k (between places p q)) in
                let f = tally_is CLOSE (take k (between places p q)) in
                let n = m.below (suc p + k) (omega arith) (omega arith) in
                omega (arith, a, b, d, f, n)
            | inr g ↦
                let e = between_all places p q k g in
                let a = ap (count OPEN) e in
                let b = ap (count CLOSE) e in
                omega (arith, a, b, same)
          ];
    }

pub even_start : (places : List ℕ) (p : ℕ) → IsEven places p (suc p)
even_start places p = record {
  equal = omega arith;
  below = λ j l u.
      let e : j ≡ suc p = omega arith in
      let a = ap (seen OPEN places) e in
      let b = ap (seen CLOSE places) e in
      omega (arith, a, b);
}

pub even_other : (places : List ℕ) (p q : ℕ) → p < q → IsOther (slice_index places q) → IsEven places p q → IsEven places p (suc q)
even_other places p q h o m =
    let a = seen_no OPEN places q o.not_open in
    let b = seen_no CLOSE places q o.not_close in
    record {
      equal = omega (arith, a, b, m.equal);
      below = λ j l u.
          elim (cases_eq j (suc q)) [
            | inl e ↦
                let x = ap (seen OPEN places) e in
                let y = ap (seen CLOSE places) e in
                omega (arith, a, b, x, y, m.equal)
            | inr n ↦ m.below j l (omega arith)
          ];
    }

-- a bracket pair goes into the stretch that ends before it
pub even_pair : (places : List ℕ) (p s i : ℕ) → p < s → s < i → slice_index places s ≡ OPEN → slice_index places i ≡ CLOSE → IsEven places p s → IsEven places s i → IsEven places p (suc i)
even_pair places p s i h k x y m n =
    let a = seen_yes OPEN places s (omega arith) x in
    let b = seen_no CLOSE places s (λ e. omega arith) in
    let d = seen_no OPEN places i (λ e. omega arith) in
    let f = seen_yes CLOSE places i (omega arith) y in
    record {
      equal = omega (arith, a, b, d, f, m.equal, n.equal);
      below = λ j l u.
          elim (cases_eq j (suc i)) [
            | inl e ↦
                let x = ap (seen OPEN places) e in
                let y = ap (seen CLOSE places) e in
                omega (arith, a, b, d, f, x, y, m.equal, n.equal)
            | inr ne ↦ elim (cases_lt s j) [
              | inl t ↦ let z = n.below j (omega arith) (omega arith) in omega (arith, a, b, m.equal, z)
              | inr g ↦ m.below j l g
            ]
          ];
    }

pub pair_from_even : (places : List ℕ) (s i : ℕ) → s < i → slice_index places s ≡ OPEN → slice_index places i ≡ CLOSE → IsEven places s i → IsBracketPair places s i
pair_from_even places s i h x y m = record { opens = x; closes = y; before = h; matched = matched_from_even places s i h m }

pub even_from_pair : (places : List ℕ) (s i : ℕ) → IsBracketPair places s i → IsEven places s i
even_from_pair places s i b = even_from_matched places s i b.before b.matched
