-- The darts of the places: edges numbered by their first places.
use Rattle.std.proofs.Common.{◌≡◌, ◌≢◌, ℕ, suc, ◌*◌, ◌<◌, ◌≤◌, ◌⊎◌, inl, inr, Bool, not, cond, ltb, refl, sym, ◌∙◌, ap, arith}
use Rattle.std.proofs.lemmas.Bool.{cases_lt, cases_eq, lt-ltb, le-ltb}
use Rattle.pm_perm.specs.Count.{count_below}
use Rattle.pm_perm.specs.Permutation.{IsPermutationBelow}
use Rattle.pm_perm.proofs.Counts.{count_below-same, count_below-image, count_below-grows, count_below-parts}
use Rattle.pm_map.specs.Rotation.{twin}
use Rattle.pm_map.specs.EdgeNumbers.{edges_before, dart_of}
use Rattle.pm_map.specs.EdgeNumbers.{IsTwinning}

-- the first place of an edge
pub is_first : (ℕ → ℕ) → ℕ → Bool
is_first t p = ltb p (t p)

-- the number of edges whose first place is below p
pub firsts : (ℕ → ℕ) → ℕ → ℕ
unfolding is_first
firsts t p = count_below (is_first t) p

pub firsts_is : (t : ℕ → ℕ) (p : ℕ) → firsts t p ≡ edges_before t p
unfolding firsts is_first
firsts_is t p = refl

firsts-suc : (t : ℕ → ℕ) (p : ℕ) → p < t p → firsts t (suc p) ≡ suc (firsts t p)
unfolding firsts is_first
firsts-suc t p h = let e = lt-ltb p (t p) h in grind arith

firsts-grows : (t : ℕ → ℕ) (p q : ℕ) → p ≤ q → firsts t p ≤ firsts t q
unfolding firsts
firsts-grows t p q h = count_below-grows (is_first t) p q h

-- of two first places the smaller has fewer before it
pub firsts_less : (t : ℕ → ℕ) (p q : ℕ) → p < t p → p < q → firsts t p < firsts t q
firsts_less t p q h l = omega (arith, firsts-suc t p h, firsts-grows t (suc p) q (omega arith))

-- two first places with as many before them are one place
pub firsts_injective : (t : ℕ → ℕ) (p q : ℕ) → p < t p → q < t q → firsts t p ≡ firsts t q → p ≡ q
firsts_injective t p q h g e = elim (cases_eq p q) [
  | inl same ↦ same
  | inr ne ↦ elim (cases_lt p q) [
    | inl l ↦ absurd (omega (arith, firsts_less t p q h l))
    | inr l ↦ absurd (omega (arith, firsts_less t q p g (omega arith)))
  ]
]

-- half of the places are first places
pub firsts_half : (n : ℕ) (t : ℕ → ℕ) → IsTwinning n t → 2 * firsts t n ≡ n
unfolding firsts is_first
firsts_half n t tw =
    let second : ℕ → Bool = λ k. ltb (t k) k in
    let parts = count_below-parts (is_first t) second n (λ k l. one_of n t tw k l) in
    let there = count_below-same (is_first t) (λ k. second (t k)) n (λ k l. mirrored n t tw k l) in
    let up = count_below-image second t n n tw.stays (injective n t tw) in
    let back = count_below-same second (λ k. is_first t (t k)) n (λ k l. mirrored_back n t tw k l) in
    let down = count_below-image (is_first t) t n n tw.stays (injective n t tw) in
    omega (arith, parts, there, up, back, down) where
      one_of : (n : ℕ) (t : ℕ → ℕ) → IsTwinning n t → (k : ℕ) → k < n → ltb k (t k) ≡ not (ltb (t k) k)
      one_of n t tw k l = let ne = tw.other k l in elim (cases_lt k (t k)) [
        | inl h ↦ lt-ltb k (t k) h ∙ sym (ap not (le-ltb (t k) k (omega arith)))
        | inr h ↦ let g : t k < k = omega arith in le-ltb k (t k) h ∙ sym (ap not (lt-ltb (t k) k g))
      ]

      mirrored : (n : ℕ) (t : ℕ → ℕ) → IsTwinning n t → (k : ℕ) → k < n → ltb k (t k) ≡ ltb (t (t k)) (t k)
      mirrored n t tw k l = ap (λ (x : ℕ). ltb x (t k)) (sym (tw.back k l))

      mirrored_back : (n : ℕ) (t : ℕ → ℕ) → IsTwinning n t → (k : ℕ) → k < n → ltb (t k) k ≡ ltb (t k) (t (t k))
      mirrored_back n t tw k l = ap (λ (x : ℕ). ltb (t k) x) (sym (tw.back k l))

      injective : (n : ℕ) (t : ℕ → ℕ) → IsTwinning n t → (j k : ℕ) → j < n → k < n → t j ≡ t k → j ≡ k
      injective n t tw j k l m e = sym (tw.back j l) ∙ ap t e ∙ tw.back k m

-- the dart of a first place
pub dart_of-first : (t : ℕ → ℕ) (p : ℕ) → p < t p → dart_of t p ≡ 2 * firsts t p
unfolding firsts is_first
dart_of-first t p h = let e = lt-ltb p (t p) h in grind arith

-- the dart of a second place
pub dart_of-second : (t : ℕ → ℕ) (p : ℕ) → t p < p → dart_of t p ≡ suc (2 * firsts t (t p))
unfolding firsts is_first
dart_of-second t p h = let e = le-ltb p (t p) (omega arith) in grind arith

-- a place is the first or the second of its edge
first_or_second : (n : ℕ) (t : ℕ → ℕ) → IsTwinning n t → (p : ℕ) → p < n → (p < t p) ⊎ (t p < p)
first_or_second n t tw p l = let ne = tw.other p l in elim (cases_lt p (t p)) [ inl h ↦ inl h | inr h ↦ inr (omega arith) ]

-- the numbering is a permutation of the places
pub dart_of_permutes : (n : ℕ) (t : ℕ → ℕ) → IsTwinning n t → IsPermutationBelow n (dart_of t)
dart_of_permutes n t tw = record { stays = stays n t tw; injective = injective n t tw } where
  stays : (n : ℕ) (t : ℕ → ℕ) → IsTwinning n t → (p : ℕ) → p < n → dart_of t p < n
  stays n t tw p l = elim (first_or_second n t tw p l) [
    | inl h ↦ omega (arith, dart_of-first t p h, firsts_less t p n h l, firsts_half n t tw)
    | inr h ↦ let first : t p < t (t p) = omega (arith, tw.back p l) in
        omega (arith, dart_of-second t p h, firsts_less t (t p) n first (tw.stays p l), firsts_half n t tw)
  ]

  injective : (n : ℕ) (t : ℕ → ℕ) → IsTwinning n t → (p q : ℕ) → p < n → q < n → dart_of t p ≡ dart_of t q → p ≡ q
  injective n t tw p q l m e = elim (first_or_second n t tw p l) [
    | inl h ↦ elim (first_or_second n t tw q m) [
      | inl g ↦ firsts_injective t p q h g (omega (arith, dart_of-first t p h, dart_of-first t q g))
      | inr g ↦ absurd (omega (arith, dart_of-first t p h, dart_of-second t q g))
    ]
    | inr h ↦ elim (first_or_second n t tw q m) [
      | inl g ↦ absurd (omega (arith, dart_of-second t p h, dart_of-first t q g))
      | inr g ↦
          let first : t p < t (t p) = omega (arith, tw.back p l) in
          let other : t q < t (t q) = omega (arith, tw.back q m) in
          let same = firsts_injective t (t p) (t q) first other (omega (arith, dart_of-second t p h, dart_of-second t q g)) in
          sym (tw.back p l) ∙ ap t same ∙ tw.back q m
    ]
  ]

-- the darts of twins are twins
pub dart_of-twin : (n : ℕ) (t : ℕ → ℕ) → IsTwinning n t → (p : ℕ) → p < n → dart_of t (t p) ≡ twin (dart_of t p)
dart_of-twin n t tw p l = elim (first_or_second n t tw p l) [
  | inl h ↦ let second : t (t p) < t p = omega (arith, tw.back p l) in
      omega (arith, dart_of-first t p h, dart_of-second t (t p) second, ap (firsts t) (tw.back p l))
  | inr h ↦ let first : t p < t (t p) = omega (arith, tw.back p l) in
      omega (arith, dart_of-second t p h, dart_of-first t (t p) first)
]

-- place 0 is dart 0
pub dart_of-root : (t : ℕ → ℕ) → t 0 ≢ 0 → dart_of t 0 ≡ 0
unfolding firsts is_first
dart_of-root t ne = dart_of-first t 0 (omega arith) ∙ none t where
  none : (t : ℕ → ℕ) → 2 * firsts t 0 ≡ 0
  none t = omega arith

-- twins that agree below n number the places below n alike
edges_before-same : (t u : ℕ → ℕ) (n p : ℕ) → ((k : ℕ) → k < n → t k ≡ u k) → p ≤ n → edges_before t p ≡ edges_before u p
edges_before-same t u n p same l = count_below-same (λ k. ltb k (t k)) (λ k. ltb k (u k)) p (λ k m. ap (ltb k) (same k (omega arith)))

pub dart_of-same : (t u : ℕ → ℕ) (n p : ℕ) → ((k : ℕ) → k < n → t k ≡ u k) → p < n → t p < n → dart_of t p ≡ dart_of u p
dart_of-same t u n p same l m =
    let here : edges_before t p ≡ edges_before u p = edges_before-same t u n p same (omega arith) in
    let there : edges_before t (t p) ≡ edges_before u (u p) = edges_before-same t u n (t p) same (omega arith) ∙ ap (edges_before u) (same p l) in
    joined t u p (same p l) here there where
      joined : (t u : ℕ → ℕ) (p : ℕ) → t p ≡ u p → edges_before t p ≡ edges_before u p → edges_before t (t p) ≡ edges_before u (u p) → dart_of t p ≡ dart_of u p
      joined t u p e here there =
          ap (λ (q : ℕ). cond (ltb p q) (2 * edges_before t p) (suc (2 * edges_before t (t p)))) e
          ∙ ap (λ (x : ℕ). cond (ltb p (u p)) (2 * x) (suc (2 * edges_before t (t p)))) here
          ∙ ap (λ (x : ℕ). cond (ltb p (u p)) (2 * edges_before u p) (suc (2 * x))) there
