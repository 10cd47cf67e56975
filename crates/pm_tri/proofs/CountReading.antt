-- A stem tree's word read from the left, with the stems so far of each open node, the innermost node first: a bit tells the
-- letter from these counts.
use Rattle.std.proofs.Common.{◌≡◌, ℕ, zero, suc, ◌+◌, ◌-◌, ◌*◌, ◌≤◌, ◌<◌, ◌⊎◌, ◌==◌, inl, inr, Bool, true, false, List, [], ◌∷◌, length, take, map, refl, ap, ◌∙◌, sym, subst, arith, eq-eqb, ne_eqb, length-append, ℤ, pos, negsuc, neg_ℤ, ◌+ℤ◌}
use Rattle.std.specs.Prelude.{◌<ℤ◌}
use Rattle.std.proofs.lemmas.Int.{ints}
use Rattle.std.proofs.lemmas.List.{length-map}
use Rattle.pm_words.specs.Word.{IsGood, sum_of}
use Rattle.pm_words.proofs.PlaneWords.{sum_of-cons}
use Rattle.pm_brackets.specs.Word.{count}
use Rattle.pm_brackets.proofs.Tally.{tally, tally-nil, tally_is, tally_no, tally_yes}
use Rattle.pm_brackets.specs.declared.letters.TheConstants.{OPEN, CLOSE}
use Rattle.pm_tri.specs.declared.letters.TheConstants.{STEM}
use Rattle.pm_tri.specs.Bits.{bits_of, weight}

-- the rest of the word gives two stems to each node that is open or that it opens
abbrev pub Reads : List ℕ → List ℕ → Type 0
Reads counts [] = counts ≡ 2 ∷ []
Reads [] (x ∷ word) = ⊥
Reads (count ∷ above) (x ∷ word) =
    ((x ≡ STEM) × (count < 2) × Reads (suc count ∷ above) word)
    ⊎ (((x ≡ OPEN) × (count ≤ 2) × Reads (0 ∷ count ∷ above) word)
    ⊎ ((x ≡ CLOSE) × (count ≡ 2) × (0 < length above) × Reads above word))

-- the bit of a letter
one_bit : (x : ℕ) → x ≡ OPEN → (x == OPEN) ≡ true
one_bit x e = eq-eqb x OPEN e

no_bit : (x : ℕ) → (x ≡ OPEN → ⊥) → (x == OPEN) ≡ false
no_bit x e = ne_eqb x OPEN e

pub length_bits : (word : List ℕ) → length (bits_of word) ≡ suc (length word)
length_bits word =
    let a = length-append (map (λ x. x == OPEN) word) (false ∷ []) in
    let b = length-map word (λ x. x == OPEN) in
    omega (arith, a, b)

-- there is one word for the counts and the bits
some_bits : (x : ℕ) (word : List ℕ) → bits_of (x ∷ word) ≡ bits_of [] → ⊥
some_bits x word e =
    let a = ap (λ (xs : List Bool). length xs) e in
    let b = length_bits (x ∷ word) in
    let c = length_bits [] in
    omega (arith, a, b, c)

same_head : (a b : Bool) (xs ys : List Bool) → a ∷ xs ≡ b ∷ ys → (a ≡ b) × (xs ≡ ys)
same_head a b xs ys e = (cc, cc)

bit_differs : (a b : Bool) → a ≡ true → b ≡ false → a ≡ b → ⊥
bit_differs a b s t e = cc

pub reads_once : (counts one other : List ℕ) → Reads counts one → Reads counts other → bits_of one ≡ bits_of other → one ≡ other
reads_once counts [] [] r s e = refl
reads_once counts [] (y ∷ other) r s e = absurd (some_bits y other (sym e))
reads_once counts (x ∷ one) [] r s e = absurd (some_bits x one e)
reads_once [] (x ∷ one) (y ∷ other) r s e = absurd r
reads_once (count ∷ above) (x ∷ one) (y ∷ other) r s e =
    let both = same_head (x == OPEN) (y == OPEN) (bits_of one) (bits_of other) e in
    elim r [
      | inl a ↦ elim s [
        | inl b ↦ joined (a.0 ∙ sym b.0) (reads_once (suc count ∷ above) one other a.2 b.2 both.1)
        | inr t ↦ elim t [
          | inl b ↦ absurd (bit_differs (y == OPEN) (x == OPEN) (one_bit y b.0) (no_bit x (λ o. let q = a.0 in omega (arith, o, q))) (sym both.0))
          | inr b ↦ absurd (let p = a.1 in let q = b.1 in omega (arith, p, q))
        ]
      ]
      | inr q ↦ elim q [
        | inl a ↦ elim s [
          | inl b ↦ absurd (bit_differs (x == OPEN) (y == OPEN) (one_bit x a.0) (no_bit y (λ o. let q = b.0 in omega (arith, o, q))) both.0)
          | inr t ↦ elim t [
            | inl b ↦ joined (a.0 ∙ sym b.0) (reads_once (0 ∷ count ∷ above) one other a.2 b.2 both.1)
            | inr b ↦ absurd (bit_differs (x == OPEN) (y == OPEN) (one_bit x a.0) (no_bit y (λ o. let q = b.0 in omega (arith, o, q))) both.0)
          ]
        ]
        | inr a ↦ elim s [
          | inl b ↦ absurd (let p = a.1 in let q = b.1 in omega (arith, p, q))
          | inr t ↦ elim t [
            | inl b ↦ absurd (bit_differs (y == OPEN) (x == OPEN) (one_bit y b.0) (no_bit x (λ o. let q = a.0 in omega (arith, o, q))) (sym both.0))
            | inr b ↦ joined (a.0 ∙ sym b.0) (reads_once above one other a.3 b.3 both.1)
          ]
        ]
      ]
    ] where
      joined : x ≡ y → one ≡ other → x ∷ one ≡ y ∷ other
      joined p q = cc

-- how many zeros the open nodes still want: three less its stems for each
unfoldable pub wants : List ℕ → ℕ
wants [] = 0
wants (count ∷ above) = (3 - count) + wants above

pub wants-none : wants [] ≡ 0
unfolding wants
wants-none = refl

pub wants-cons : (count : ℕ) (above : List ℕ) → wants (count ∷ above) ≡ (3 - count) + wants above
unfolding wants
wants-cons count above = refl

-- the weights of the bits sum to so many zeros less
weights : List ℕ → List ℤ
weights word = map weight (bits_of word)

weights_are : (word : List ℕ) → weights word ≡ map weight (bits_of word)
unfolding weights
weights_are word = refl

weights-none : weights [] ≡ negsuc 0 ∷ []
unfolding weights
weights-none = refl

weights_one : (x : ℕ) (word : List ℕ) → x ≡ OPEN → weights (x ∷ word) ≡ pos 3 ∷ weights word
unfolding weights
weights_one x word e = ap (λ (b : Bool). weight b ∷ map weight (bits_of word)) (one_bit x e)

weights_zero : (x : ℕ) (word : List ℕ) → (x ≡ OPEN → ⊥) → weights (x ∷ word) ≡ negsuc 0 ∷ weights word
unfolding weights
weights_zero x word e = ap (λ (b : Bool). weight b ∷ map weight (bits_of word)) (no_bit x e)

-- what the next letter leaves to be wanted, of which there is always some
record IsStep (counts : List ℕ) (x : ℕ) (word : List ℕ) : Type 0 where
  next : List ℕ
  reads : Reads next word
  bit : ℤ
  weights_next : weights (x ∷ word) ≡ bit ∷ weights word
  wanted : pos (wants counts) +ℤ bit ≡ pos (wants next)
  some : 0 < wants counts
  counted : 4 * tally OPEN (x ∷ word) + wants counts ≡ suc (4 * tally OPEN word + wants next)

step : (count : ℕ) (above : List ℕ) (x : ℕ) (word : List ℕ) → Reads (count ∷ above) (x ∷ word) → IsStep (count ∷ above) x word
step count above x word r =
    let here = wants-cons count above in
    elim r [
      | inl a ↦
          let s = a.0 in
          let l = a.1 in
          let there = wants-cons (suc count) above in
          let t = tally_no OPEN x word (λ o. omega (arith, o, s)) in
          record {
            next = suc count ∷ above;
            reads = a.2;
            bit = negsuc 0;
            weights_next = weights_zero x word (λ o. omega (arith, o, s));
            wanted = omega (arith, ints, here, there, l);
            some = omega (arith, here, l);
            counted = omega (arith, here, there, l, t);
          }
      | inr q ↦ elim q [
        | inl a ↦
            let l = a.1 in
            let there = wants-cons 0 (count ∷ above) in
            let t = tally_yes OPEN x word a.0 in
            record {
              next = 0 ∷ count ∷ above;
              reads = a.2;
              bit = pos 3;
              weights_next = weights_one x word a.0;
              wanted = omega (arith, ints, there);
              some = omega (arith, here, l);
              counted = omega (arith, there, t);
            }
        | inr a ↦
            let s = a.0 in
            let l = a.1 in
            let t = tally_no OPEN x word (λ o. omega (arith, o, s)) in
            record {
              next = above;
              reads = a.3;
              bit = negsuc 0;
              weights_next = weights_zero x word (λ o. omega (arith, o, s));
              wanted = omega (arith, ints, here, l);
              some = omega (arith, here, l);
              counted = omega (arith, here, l, t);
            }
      ]
    ]

reads_sum : (counts word : List ℕ) → Reads counts word → sum_of (weights word) ≡ neg_ℤ (pos (wants counts))
reads_sum counts [] r =
    let a = ap wants r in
    let b = wants-cons 2 [] in
    let c = wants-none in
    let d = ap sum_of weights-none in
    let e = sum_of-cons (negsuc 0) [] in
    omega (arith, ints, a, b, c, d, e)
reads_sum [] (x ∷ word) r = absurd r
reads_sum (count ∷ above) (x ∷ word) r =
    let s = step count above x word r in
    let w = s.wanted in
    let a = ap sum_of s.weights_next in
    let b = sum_of-cons s.bit (weights word) in
    let c = reads_sum s.next word s.reads in
    omega (arith, ints, a, b, c, w)

take_next : (bit : ℤ) (xs : List ℤ) (prefix : ℕ) → take (suc prefix) (bit ∷ xs) ≡ bit ∷ take prefix xs
take_next bit xs prefix = refl

reads_above : (counts word : List ℕ) (prefix : ℕ) → Reads counts word → prefix < length (weights word) → neg_ℤ (pos (wants counts)) <ℤ sum_of (take prefix (weights word))
reads_above counts [] zero r l =
    let a = ap wants r in
    let b = wants-cons 2 [] in
    let c = wants-none in
    omega (arith, ints, a, b, c)
reads_above counts [] (suc prefix) r l = absurd (let a = ap (λ (xs : List ℤ). length xs) weights-none in omega (arith, a, l))
reads_above [] (x ∷ word) prefix r l = absurd r
reads_above (count ∷ above) (x ∷ word) zero r l =
    let s = step count above x word r in
    let h = s.some in
    omega (arith, ints, h)
reads_above (count ∷ above) (x ∷ word) (suc prefix) r l =
    let s = step count above x word r in
    let w = s.wanted in
    let long = ap (λ (xs : List ℤ). length xs) s.weights_next in
    let h = reads_above s.next word prefix s.reads (omega (arith, long, l)) in
    let a = ap (λ (xs : List ℤ). sum_of (take (suc prefix) xs)) s.weights_next in
    let b = sum_of-cons s.bit (take prefix (weights word)) in
    omega (arith, ints, a, b, h, w)

pub reads_good : (word : List ℕ) → Reads (1 ∷ []) word → IsGood 2 (map weight (bits_of word))
reads_good word r =
    let a = wants-cons 1 [] in
    let b = wants-none in
    let e = weights_are word in
    let P : List ℤ → Type 0 = λ xs. IsGood 2 xs in
    subst P e (record {
      sum = (let s = reads_sum (1 ∷ []) word r in omega (arith, ints, a, b, s));
      above = λ prefix l. let h = reads_above (1 ∷ []) word prefix r l in omega (arith, ints, a, b, h);
    })

-- four bits for each node that is opened, and one for each zero that is wanted
reads_length : (counts word : List ℕ) → Reads counts word → suc (length word) ≡ 4 * tally OPEN word + wants counts
reads_length counts [] r =
    let a = ap wants r in
    let b = wants-cons 2 [] in
    let c = wants-none in
    let d = tally-nil OPEN in
    omega (arith, a, b, c, d)
reads_length [] (x ∷ word) r = absurd r
reads_length (count ∷ above) (x ∷ word) r =
    let s = step count above x word r in
    let h = reads_length s.next word s.reads in
    let c = s.counted in
    omega (arith, h, c)

-- how many bits a tree has
pub tree_bits : (word : List ℕ) → Reads (1 ∷ []) word → length (bits_of word) + 2 ≡ 4 * suc (count OPEN word)
tree_bits word r =
    let h = reads_length (1 ∷ []) word r in
    let a = wants-cons 1 [] in
    let b = wants-none in
    let c = tally_is OPEN word in
    let d = length_bits word in
    omega (arith, h, a, b, c, d)
