-- Letters of a stretch in twos: behind each first letter stands its second one.
use Rattle.std.proofs.Common.{◌≡◌, ℕ, zero, suc, ◌+◌, ◌-◌, ◌≤◌, ◌<◌, Bool, true, false, inl, inr, List, ap, ◌∙◌, eqb, eqb-true, eq-eqb, ne_eqb, arith}
use Rattle.std.specs.Prelude.{slice_index}
use Rattle.std.proofs.lemmas.Bool.{cases_eq}
use Rattle.pm_perm.specs.Count.{count_below}
use Rattle.pm_perm.proofs.Counts.{count_below-into}
use Rattle.pm_brackets.proofs.Levels.{seen, seen_yes, seen_no}

-- between place a and place b each of the two letters has the other one at its other place
pub record IsFolded (places : List ℕ) (first second : ℕ) (other : ℕ → ℕ) (a b : ℕ) : Type 0 where
  pub of_first : (k : ℕ) → a ≤ k → k < b → slice_index places k ≡ first → (k < other k) × (other k < b) × (slice_index places (other k) ≡ second)
  pub of_second : (k : ℕ) → a ≤ k → k < b → slice_index places k ≡ second → (other k < k) × (a ≤ other k) × (slice_index places (other k) ≡ first)
  pub twice : (k : ℕ) → a ≤ k → k < b → other (other k) ≡ k

-- the letter stands at the k-th place from a on
stands : List ℕ → ℕ → ℕ → ℕ → Bool
stands places letter a k = eqb (slice_index places (a + k)) letter

stands_yes : (places : List ℕ) (letter a k : ℕ) → slice_index places (a + k) ≡ letter → stands places letter a k ≡ true
unfolding stands
stands_yes places letter a k e = eq-eqb (slice_index places (a + k)) letter e

stands_no : (places : List ℕ) (letter a k : ℕ) → (slice_index places (a + k) ≡ letter → ⊥) → stands places letter a k ≡ false
unfolding stands
stands_no places letter a k ne = ne_eqb (slice_index places (a + k)) letter ne

stands_is : (places : List ℕ) (letter a k : ℕ) → stands places letter a k ≡ true → slice_index places (a + k) ≡ letter
unfolding stands
stands_is places letter a k e = eqb-true (slice_index places (a + k)) letter e

more_yes : (x y : ℕ) (P : ℕ → Bool) (n : ℕ) → P n ≡ true → x ≡ suc (y + count_below P n) → x ≡ y + count_below P (suc n)
more_yes x y P n here e = grind arith

more_no : (x y : ℕ) (P : ℕ → Bool) (n : ℕ) → P n ≡ false → x ≡ y + count_below P n → x ≡ y + count_below P (suc n)
more_no x y P n no_more e = grind arith

-- how often the letter stands before place a, and in so many places from there on
seen_from : (letter : ℕ) (places : List ℕ) (a n : ℕ) → 0 < letter → seen letter places (a + n) ≡ seen letter places a + count_below (stands places letter a) n
seen_from letter places a zero some = let e : a + 0 ≡ a = omega arith in omega (arith, ap (seen letter places) e)
seen_from letter places a (suc n) some =
    let e : a + suc n ≡ suc (a + n) = omega arith in
    let before = seen_from letter places a n some in
    elim (cases_eq (slice_index places (a + n)) letter) [
      | inl same ↦ more_yes (seen letter places (a + suc n)) (seen letter places a) (stands places letter a) n (stands_yes places letter a n same)
          (omega (arith, ap (seen letter places) e, seen_yes letter places (a + n) some same, before))
      | inr differs ↦ more_no (seen letter places (a + suc n)) (seen letter places a) (stands places letter a) n (stands_no places letter a n differs)
          (omega (arith, ap (seen letter places) e, seen_no letter places (a + n) differs, before))
    ]

module _ (places : List ℕ) (first second : ℕ) (other : ℕ → ℕ) (a b : ℕ) (folded : IsFolded places first second other a b) where
  -- the other place, counted from a on
  over : ℕ → ℕ
  over k = other (a + k) - a

  over_is : (k : ℕ) → a ≤ other (a + k) → a + over k ≡ other (a + k)
  unfolding over
  over_is k low = omega arith

  over_injective : (j k : ℕ) → a + j < b → a + k < b → a ≤ other (a + j) → a ≤ other (a + k) → over j ≡ over k → j ≡ k
  over_injective j k l m low_j low_k e =
      let same : other (a + j) ≡ other (a + k) = omega (arith, over_is j low_j, over_is k low_k) in
      let back = ap other same in
      let at_j = folded.twice (a + j) (omega arith) l in
      let at_k = folded.twice (a + k) (omega arith) m in
      omega (arith, back, at_j, at_k)

  -- each second letter has its first one before it
  seconds_few : (n : ℕ) → a + n ≤ b → count_below (stands places second a) n ≤ count_below (stands places first a) n
  seconds_few n le = count_below-into (stands places second a) (stands places first a) over n n
      (λ k l e. let h = folded.of_second (a + k) (omega arith) (omega arith) (stands_is places second a k e) in omega (arith, h.0, h.1, over_is k h.1))
      (λ k l e. let h = folded.of_second (a + k) (omega arith) (omega arith) (stands_is places second a k e) in
      stands_yes places first a (over k) (ap (slice_index places) (over_is k h.1) ∙ h.2))
      (λ j k l m e f same. over_injective j k (omega arith) (omega arith)
      (folded.of_second (a + j) (omega arith) (omega arith) (stands_is places second a j e)).1
      (folded.of_second (a + k) (omega arith) (omega arith) (stands_is places second a k f)).1 same)

  -- each first letter has its second one before the end
  firsts_few : (n : ℕ) → a + n ≡ b → count_below (stands places first a) n ≤ count_below (stands places second a) n
  firsts_few n end = count_below-into (stands places first a) (stands places second a) over n n
      (λ k l e. let h = folded.of_first (a + k) (omega arith) (omega arith) (stands_is places first a k e) in
      let low : a ≤ other (a + k) = omega (arith, h.0) in omega (arith, h.1, over_is k low))
      (λ k l e. let h = folded.of_first (a + k) (omega arith) (omega arith) (stands_is places first a k e) in
      let low : a ≤ other (a + k) = omega (arith, h.0) in
      stands_yes places second a (over k) (ap (slice_index places) (over_is k low) ∙ h.2))
      (λ j k l m e f same.
      let h = folded.of_first (a + j) (omega arith) (omega arith) (stands_is places first a j e) in
      let g = folded.of_first (a + k) (omega arith) (omega arith) (stands_is places first a k f) in
      over_injective j k (omega arith) (omega arith) (omega (arith, h.0)) (omega (arith, g.0)) same)

  -- no prefix of the stretch has more second letters than first ones
  pub folded_below : (j : ℕ) → a ≤ j → j ≤ b → 0 < first → 0 < second → seen second places j + seen first places a ≤ seen first places j + seen second places a
  folded_below j low high some_first some_second =
      let e : a + (j - a) ≡ j = omega arith in
      let few = seconds_few (j - a) (omega arith) in
      omega (arith, few, ap (seen first places) e, ap (seen second places) e, seen_from first places a (j - a) some_first, seen_from second places a (j - a) some_second)

  -- and the whole has as many
  pub folded_equal : a ≤ b → 0 < first → 0 < second → seen first places b + seen second places a ≡ seen second places b + seen first places a
  folded_equal le some_first some_second =
      let e : a + (b - a) ≡ b = omega arith in
      let few = seconds_few (b - a) (omega arith) in
      let few_too = firsts_few (b - a) e in
      omega (arith, few, few_too, ap (seen first places) e, ap (seen second places) e, seen_from first places a (b - a) some_first, seen_from second places a (b - a) some_second)
