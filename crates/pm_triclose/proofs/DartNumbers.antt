-- The numbers of the darts of a closure: the edges in the order of their first places, two darts each.
use Rattle.std.proofs.Common.{◌≡◌, ◌≢◌, ℕ, zero, suc, ◌+◌, ◌-◌, ◌*◌, ◌/◌, ◌%◌, ◌<◌, ◌==◌, Bool, cond, inl, inr, List, length, slice_index, refl, ap, ◌∙◌, sym, arith, ltb, eqb, eq-eqb, ne_eqb, lt-ltb, le-ltb}
use Rattle.std.proofs.lemmas.Bool.{cases_eq, cases_lt}
use Rattle.pm_brackets.specs.declared.letters.TheConstants.{OPEN, CLOSE}
use Rattle.pm_brackets.specs.Word.{IsBracketPair, IsBracketing}
use Rattle.pm_brackets.proofs.Bracketed.{bracketing_exists}
use Rattle.pm_brackets.proofs.Levels.{inside}
use Rattle.pm_brackets.proofs.Nesting.{one_closer, one_opener}
use Rattle.pm_map.specs.EdgeNumbers.{dart_of}
use Rattle.pm_map.specs.Rotation.{twin}
use Rattle.pm_map.proofs.NumberedEdges.{dart_of-first, dart_of-second, firsts, firsts_injective, firsts_is, firsts_less}
use Rattle.pm_tri.specs.declared.letters.TheConstants.{STEM}
use Rattle.pm_tri.specs.StemTree.{IsInOrder, contour}
use Rattle.pm_tri.proofs.StemLetters.{letter_is_stem, stem_is_other}
use Rattle.pm_triclose.specs.Closure.{AreTwins, Dart, a_to_b, at_place, b_to_a, of_bracket, of_stem, twin_of}
use Rattle.pm_triclose.specs.WholeClosure.{IsWholeDart}

-- a place with its letter
pub data IsPlace (places : List ℕ) (k : ℕ) : Type 0 where
  a_stem : slice_index places k ≡ STEM → IsPlace places k
  an_opener : (q : ℕ) → IsBracketPair places k q → IsPlace places k
  a_closer : (p : ℕ) → IsBracketPair places p k → IsPlace places k

-- the other bracket of a bracket; the twin of a stem counts as a place behind the last one
pub record IsDrawn (places : List ℕ) (t : ℕ → ℕ) : Type 0 where
  pub there : (x : ℕ) → slice_index places x ≡ STEM → t x ≡ length places + x
  pub back : (x : ℕ) → slice_index places x ≡ STEM → t (length places + x) ≡ x
  pub opens : (p q : ℕ) → IsBracketPair places p q → t p ≡ q
  pub closes : (p q : ℕ) → IsBracketPair places p q → t q ≡ p
  pub each : (k : ℕ) → k < length places → IsPlace places k

across : List ℕ → List ℕ → ℕ → ℕ
across places other k = cond (ltb k (length places)) (cond (slice_index places k == STEM) (length places + k) (slice_index other k)) (k - length places)

across_stem : (places other : List ℕ) (x : ℕ) → slice_index places x ≡ STEM → across places other x ≡ length places + x
unfolding across
across_stem places other x e =
    let l = inside places x STEM (omega arith) e in
    rw (lt-ltb x (length places) l, eq-eqb (slice_index places x) STEM e) refl

across_twin : (places other : List ℕ) (x : ℕ) → across places other (length places + x) ≡ x
unfolding across
across_twin places other x =
    let e : length places + x - length places ≡ x = omega arith in
    rw (le-ltb (length places + x) (length places) (omega arith)) e

across_bracket : (places other : List ℕ) (k : ℕ) → k < length places → slice_index places k ≢ STEM → across places other k ≡ slice_index other k
unfolding across
across_bracket places other k l ne = rw (lt-ltb k (length places) l, ne_eqb (slice_index places k) STEM ne) refl

-- each word in order is drawn
pub drawn : (word : List ℕ) → IsInOrder word → (t : ℕ → ℕ) × IsDrawn (contour word) t
drawn word order =
    let found = bracketing_exists STEM stem_is_other word order.matched in
    let other : List ℕ = found.0 in
    let b : IsBracketing (contour word) other = found.1 in (
      across (contour word) other,
      record {
        there = across_stem (contour word) other;
        back = λ x e. across_twin (contour word) other x;
        opens = λ p q a.
            let o = a.opens in
            across_bracket (contour word) other p (inside (contour word) p OPEN (omega arith) o) (λ e. omega (arith, o, e))
            ∙ one_closer (contour word) p (slice_index other p) q (b.of_open p o) a;
        closes = λ p q a.
            let c = a.closes in
            across_bracket (contour word) other q (inside (contour word) q CLOSE (omega arith) c) (λ e. omega (arith, c, e))
            ∙ one_opener (contour word) (slice_index other q) q p (b.of_close q c) a;
        each = λ k l. elim (cases_eq (slice_index (contour word) k) OPEN) [
          | inl o ↦ an_opener (slice_index other k) (b.of_open k o)
          | inr a ↦ elim (cases_eq (slice_index (contour word) k) CLOSE) [
            | inl c ↦ a_closer (slice_index other k) (b.of_close k c)
            | inr n ↦ a_stem (stem_place word order k l a n)
          ]
        ];
      },
    ) where
      stem_place : (word : List ℕ) → IsInOrder word → (k : ℕ) → k < length (contour word) → slice_index (contour word) k ≢ OPEN → slice_index (contour word) k ≢ CLOSE → slice_index (contour word) k ≡ STEM
      stem_place word order zero l a n = refl
      stem_place word order (suc k) l a n = letter_is_stem word k order (omega arith) (record { not_open = a; not_close = n })

-- the number of a dart
pub number_of : List ℕ → (ℕ → ℕ) → Dart → ℕ
number_of places t (at_place p) = dart_of t p
number_of places t (twin_of x) = dart_of t (length places + x)
number_of places t a_to_b = 0
number_of places t b_to_a = 0

pub place_number : (places : List ℕ) (t : ℕ → ℕ) (p : ℕ) → number_of places t (at_place p) ≡ dart_of t p
unfolding number_of
place_number places t p = refl

twin_number : (places : List ℕ) (t : ℕ → ℕ) (x : ℕ) → number_of places t (twin_of x) ≡ dart_of t (length places + x)
unfolding number_of
twin_number places t x = refl

-- one edge more, or none
more_firsts : (t : ℕ → ℕ) (k : ℕ) → k < t k → firsts t (suc k) ≡ suc (firsts t k)
more_firsts t k l =
    let e = lt-ltb k (t k) l in
    let here = firsts_is t k in
    let next = firsts_is t (suc k) in
    grind arith

same_firsts : (t : ℕ → ℕ) (k : ℕ) → t k < k → firsts t (suc k) ≡ firsts t k
same_firsts t k l =
    let e = le-ltb k (t k) (omega arith) in
    let here = firsts_is t k in
    let next = firsts_is t (suc k) in
    grind arith

pub no_firsts : (t : ℕ → ℕ) → firsts t 0 ≡ 0
no_firsts t = firsts_is t 0

-- each number of an edge is that of a place
some_first : (t : ℕ → ℕ) (n m : ℕ) → ((k : ℕ) → k < n → t k ≢ k) → m < firsts t n → (p : ℕ) × (p < n) × (p < t p) × (firsts t p ≡ m)
some_first t zero m ne l = absurd (omega (arith, l, no_firsts t))
some_first t (suc n) m ne l = elim (cases_lt m (firsts t n)) [
  | inl low ↦ let f = some_first t n m (λ k b. ne k (omega arith)) low in (f.0, (let b = f.1 in omega arith), f.2, f.3)
  | inr high ↦ elim (cases_lt n (t n)) [
    | inl up ↦ (n, omega arith, up, omega (arith, more_firsts t n up, l, high))
    | inr down ↦ absurd (let other = ne n (omega arith) in let less : t n < n = omega arith in omega (arith, same_firsts t n less, l, high))
  ]
]

module _ (places : List ℕ) (t : ℕ → ℕ) (d : IsDrawn places t) where
  stem_up : (x : ℕ) → slice_index places x ≡ STEM → x < t x
  stem_up x e = let l = inside places x STEM (omega arith) e in omega (arith, d.there x e, l)

  open_up : (p q : ℕ) → IsBracketPair places p q → p < t p
  open_up p q a = omega (arith, d.opens p q a, a.before)

  pub stem_number : (x : ℕ) → slice_index places x ≡ STEM → number_of places t (at_place x) ≡ 2 * firsts t x
  stem_number x e = place_number places t x ∙ dart_of-first t x (stem_up x e)

  pub stem_twin : (x : ℕ) → slice_index places x ≡ STEM → number_of places t (twin_of x) ≡ suc (2 * firsts t x)
  stem_twin x e =
      let l = inside places x STEM (omega arith) e in
      twin_number places t x ∙ dart_of-second t (length places + x) (omega (arith, d.back x e, l)) ∙ ap (λ (k : ℕ). suc (2 * firsts t k)) (d.back x e)

  pub open_number : (p q : ℕ) → IsBracketPair places p q → number_of places t (at_place p) ≡ 2 * firsts t p
  open_number p q a = place_number places t p ∙ dart_of-first t p (open_up p q a)

  pub close_number : (p q : ℕ) → IsBracketPair places p q → number_of places t (at_place q) ≡ suc (2 * firsts t p)
  close_number p q a = place_number places t q ∙ dart_of-second t q (omega (arith, d.closes p q a, a.before)) ∙ ap (λ (k : ℕ). suc (2 * firsts t k)) (d.closes p q a)

  pub stem_more : (x : ℕ) → slice_index places x ≡ STEM → firsts t (suc x) ≡ suc (firsts t x)
  stem_more x e = more_firsts t x (stem_up x e)

  pub open_more : (p q : ℕ) → IsBracketPair places p q → firsts t (suc p) ≡ suc (firsts t p)
  open_more p q a = more_firsts t p (open_up p q a)

  pub close_same : (p q : ℕ) → IsBracketPair places p q → firsts t (suc q) ≡ firsts t q
  close_same p q a = same_firsts t q (omega (arith, d.closes p q a, a.before))

  pub stem_less : (x k : ℕ) → slice_index places x ≡ STEM → x < k → firsts t x < firsts t k
  stem_less x k e l = firsts_less t x k (stem_up x e) l

  pub open_less : (p q k : ℕ) → IsBracketPair places p q → p < k → firsts t p < firsts t k
  open_less p q k a l = firsts_less t p k (open_up p q a) l

  -- a dart is the first or the second of the edge with this first place
  second_of : ℕ → Dart
  second_of p = cond {A = Dart} (eqb (slice_index places p) STEM) (twin_of p) (at_place (t p))

  data IsHalf (x : Dart) : Type 0 where
    first_half : (p : ℕ) → p < t p → p < length places → x ≡ at_place p → number_of places t x ≡ 2 * firsts t p → IsHalf x
    second_half : (p : ℕ) → p < t p → p < length places → x ≡ second_of p → number_of places t x ≡ suc (2 * firsts t p) → IsHalf x

  second_stem : (x : ℕ) → slice_index places x ≡ STEM → second_of x ≡ twin_of x
  unfolding second_of
  second_stem x e = rw (eq-eqb (slice_index places x) STEM e) refl

  second_close : (p q : ℕ) → IsBracketPair places p q → second_of p ≡ at_place q
  unfolding second_of
  second_close p q a =
      let o = a.opens in
      let ne : slice_index places p ≢ STEM = λ e. omega (arith, o, e) in
      ap (λ (b : Bool). cond {A = Dart} b (twin_of p) (at_place (t p))) (ne_eqb (slice_index places p) STEM ne) ∙ ap at_place (d.opens p q a)

  half : (x : Dart) → IsWholeDart places x → IsHalf x
  half (at_place p) l = found (d.each p l) where
    found : IsPlace places p → IsHalf (at_place p)
    found (a_stem e) = first_half p (stem_up p e) l refl (stem_number p e)
    found (an_opener q a) = first_half p (open_up p q a) l refl (open_number p q a)
    found (a_closer o a) = second_half o (open_up o p a) (let b = a.before in omega arith) (sym (second_close o p a)) (close_number o p a)
  half (twin_of x) e = second_half x (stem_up x e) (inside places x STEM (omega arith) e) (sym (second_stem x e)) (stem_twin x e)
  half a_to_b h = absurd h
  half b_to_a h = absurd h

  pub numbers_differ : (x y : Dart) → IsWholeDart places x → IsWholeDart places y → number_of places t x ≡ number_of places t y → x ≡ y
  numbers_differ x y h i e = found (half x h) (half y i) where
    found : IsHalf x → IsHalf y → x ≡ y
    found (first_half p u l f n) (first_half q v m g o) = f ∙ ap at_place (firsts_injective t p q u v (omega (arith, n, o, e))) ∙ sym g
    found (second_half p u l f n) (second_half q v m g o) = f ∙ ap second_of (firsts_injective t p q u v (omega (arith, n, o, e))) ∙ sym g
    found (first_half p u l f n) (second_half q v m g o) = absurd (omega (arith, n, o, e))
    found (second_half p u l f n) (first_half q v m g o) = absurd (omega (arith, n, o, e))

  pub number_within : (x : Dart) → IsWholeDart places x → number_of places t x < 2 * firsts t (length places)
  number_within x h = found (half x h) where
    found : IsHalf x → number_of places t x < 2 * firsts t (length places)
    found (first_half p u l f n) = omega (arith, n, firsts_less t p (length places) u l)
    found (second_half p u l f n) = omega (arith, n, firsts_less t p (length places) u l)

  apart : (k : ℕ) → k < length places → t k ≢ k
  apart k l = found (d.each k l) where
    found : IsPlace places k → t k ≢ k
    found (a_stem e) f = omega (arith, stem_up k e, f)
    found (an_opener q a) f = omega (arith, open_up k q a, f)
    found (a_closer p a) f = omega (arith, d.closes p k a, a.before, f)

  pub each_number : (m : ℕ) → m < 2 * firsts t (length places) → (x : Dart) × IsWholeDart places x × (number_of places t x ≡ m)
  each_number m l = found (some_first t (length places) (m / 2) apart (omega arith)) where
    found : (p : ℕ) × (p < length places) × (p < t p) × (firsts t p ≡ m / 2) → (x : Dart) × IsWholeDart places x × (number_of places t x ≡ m)
    found f = elim (cases_eq (m % 2) 0) [
      | inl even ↦ (at_place f.0, f.1, place_number places t f.0 ∙ dart_of-first t f.0 f.2 ∙ (let e = f.3 in omega arith))
      | inr odd ↦ second f.0 f.1 f.2 (let e = f.3 in omega arith) (d.each f.0 f.1)
    ] where
      second : (p : ℕ) → p < length places → p < t p → suc (2 * firsts t p) ≡ m → IsPlace places p → (x : Dart) × IsWholeDart places x × (number_of places t x ≡ m)
      second p in_it up e (a_stem s) = (twin_of p, s, stem_twin p s ∙ e)
      second p in_it up e (an_opener q a) = (at_place q, inside places q CLOSE (omega arith) a.closes, close_number p q a ∙ e)
      second p in_it up e (a_closer o a) = absurd (omega (arith, d.closes o p a, a.before, up))

  pub numbers_twin : (x y : Dart) → IsWholeDart places x → AreTwins places x y → twin (number_of places t x) ≡ number_of places t y
  numbers_twin (at_place p) y h (of_stem e f) = omega (arith, stem_number p e, stem_twin p e, ap (number_of places t) f)
  numbers_twin (at_place p) y h (of_bracket q (inl a) f) = omega (arith, open_number p q a, close_number p q a, ap (number_of places t) f)
  numbers_twin (at_place p) y h (of_bracket q (inr a) f) = omega (arith, open_number q p a, close_number q p a, ap (number_of places t) f)
  numbers_twin (twin_of x) y h f = omega (arith, stem_number x h, stem_twin x h, ap (number_of places t) f)
  numbers_twin a_to_b y h f = absurd h
  numbers_twin b_to_a y h f = absurd h
