-- Reading a ring of letters from its second letter on: the letter that was first comes last, and where it is a `(`, its `)`
-- becomes the `(` and it becomes the `)`.
use Rattle.std.proofs.Common.{◌≡◌, ℕ, suc, ◌+◌, ◌-◌, ◌%◌, ◌<◌, inl, inr, List, [], ◌∷◌, ◌++◌, length, take, drop, slice_index, refl, ap, ap₂, sym, ◌∙◌, subst, arith, length-append, length-drop, drop-drop}
use Rattle.std.proofs.lemmas.Bool.{cases_lt, cases_order}
use Rattle.std.proofs.lemmas.List.{get_or_append_left, get_or-append-add, get_or_push, get_or_at, drop-append-le, take-append-le, drop_at, take_at}
use Rattle.std.proofs.Math.Nat.{add-mod-mod}
use Rattle.pm_brackets.specs.declared.letters.TheConstants.{OPEN, CLOSE}
use Rattle.pm_brackets.specs.Word.{between, IsMatched, IsBracketPair}
use Rattle.pm_brackets.specs.Ring.{place_from, AreBrackets, IsTurned}
use Rattle.pm_brackets.specs.Word.{IsOther}
use Rattle.pm_brackets.proofs.Levels.{inside}
use Rattle.pm_brackets.proofs.Nesting.{one_closer, one_opener, opens_inside}
use Rattle.pm_brackets.proofs.Dyck.{IsDyck, matched_from_dyck}
use Rattle.pm_brackets.proofs.RingPlaces.{mod_stays, are_at, in_order, flipped, not_itself}

-- the same stretch elsewhere
moved : (xs ys : List ℕ) (p q r s : ℕ) → slice_index ys r ≡ slice_index xs p → slice_index ys s ≡ slice_index xs q → r < s → between ys r s ≡ between xs p q → IsBracketPair xs p q → IsBracketPair ys r s
moved xs ys p q r s a b l e pair = record {
  opens = a ∙ pair.opens;
  closes = b ∙ pair.closes;
  before = l;
  matched = subst IsMatched (sym e) pair.matched;
}

between_tail : (x : ℕ) (xs : List ℕ) (p q : ℕ) → between (x ∷ xs) (suc p) (suc q) ≡ between xs p q
between_tail x xs p q =
    let e : suc q - suc (suc p) ≡ q - suc p = omega arith in
    ap (λ (k : ℕ). take k (drop (suc p) xs)) e

pub pair_cons : (x : ℕ) (xs : List ℕ) (p q : ℕ) → IsBracketPair xs p q → IsBracketPair (x ∷ xs) (suc p) (suc q)
pair_cons x xs p q pair = moved xs (x ∷ xs) p q (suc p) (suc q) refl refl (let b = pair.before in omega arith) (between_tail x xs p q) pair

pub pair_tail : (x : ℕ) (xs : List ℕ) (p q : ℕ) → IsBracketPair (x ∷ xs) (suc p) (suc q) → IsBracketPair xs p q
pair_tail x xs p q pair = moved (x ∷ xs) xs (suc p) (suc q) p q refl refl (let b = pair.before in omega arith) (sym (between_tail x xs p q)) pair

between_prefix : (xs ys : List ℕ) (p q : ℕ) → p < q → q < length xs → between (xs ++ ys) p q ≡ between xs p q
between_prefix xs ys p q l h =
    let n = length-drop (suc p) xs in
    ap (take (q - suc p)) (drop-append-le (suc p) xs ys (omega arith)) ∙ take-append-le (q - suc p) (drop (suc p) xs) ys (omega (arith, n))

pair_more : (xs ys : List ℕ) (p q : ℕ) → IsBracketPair xs p q → IsBracketPair (xs ++ ys) p q
pair_more xs ys p q pair =
    let b = pair.before in
    let l : q < length xs = inside xs q CLOSE (omega arith) pair.closes in
    moved xs (xs ++ ys) p q p q (get_or_append_left xs ys 0 p (omega arith)) (get_or_append_left xs ys 0 q l) b (between_prefix xs ys p q b l) pair

pair_less : (xs ys : List ℕ) (p q : ℕ) → q < length xs → IsBracketPair (xs ++ ys) p q → IsBracketPair xs p q
pair_less xs ys p q l pair =
    let b = pair.before in
    moved (xs ++ ys) xs p q p q (sym (get_or_append_left xs ys 0 p (omega arith))) (sym (get_or_append_left xs ys 0 q l)) b (sym (between_prefix xs ys p q b l)) pair

between_back : (xs ys : List ℕ) (p q : ℕ) → between (xs ++ ys) (length xs + p) (length xs + q) ≡ between ys p q
between_back xs ys p q =
    let e : (length xs + q) - suc (length xs + p) ≡ q - suc p = omega arith in
    let f : suc (length xs + p) ≡ length xs + suc p = omega arith in
    let d : drop (suc (length xs + p)) (xs ++ ys) ≡ drop (suc p) ys =
    ap (λ (k : ℕ). drop k (xs ++ ys)) f ∙ sym (drop-drop (suc p) (length xs) (xs ++ ys)) ∙ ap (drop (suc p)) (drop_at xs ys (length xs) refl) in
    ap₂ (λ (k : ℕ) (zs : List ℕ). take k zs) e d

pair_behind : (xs ys : List ℕ) (p q : ℕ) → IsBracketPair ys p q → IsBracketPair (xs ++ ys) (length xs + p) (length xs + q)
pair_behind xs ys p q pair =
    moved ys (xs ++ ys) p q (length xs + p) (length xs + q) (get_or-append-add xs ys p 0) (get_or-append-add xs ys q 0) (let b = pair.before in omega arith) (between_back xs ys p q) pair

pair_back : (xs ys : List ℕ) (p q : ℕ) → IsBracketPair (xs ++ ys) (length xs + p) (length xs + q) → IsBracketPair ys p q
pair_back xs ys p q pair =
    moved (xs ++ ys) ys (length xs + p) (length xs + q) p q (sym (get_or-append-add xs ys p 0)) (sym (get_or-append-add xs ys q 0)) (let b = pair.before in omega arith) (sym (between_back xs ys p q)) pair

pair_at : (xs : List ℕ) (p q r s : ℕ) → p ≡ r → q ≡ s → IsBracketPair xs p q → IsBracketPair xs r s
pair_at xs p q r s e f pair =
    let P : ℕ → Type 0 = λ k. IsBracketPair xs k q in
    let Q : ℕ → Type 0 = λ k. IsBracketPair xs r k in
    subst Q f (subst P e pair)

-- the pair of a word in brackets
whole_pair : (xs ys : List ℕ) → IsDyck xs → IsBracketPair (OPEN ∷ (xs ++ CLOSE ∷ ys)) 0 (suc (length xs))
whole_pair xs ys d = record {
  opens = refl;
  closes = get_or_at xs CLOSE ys 0 (length xs) refl;
  before = omega arith;
  matched =
      let e : suc (length xs) - 1 ≡ length xs = omega arith in
      let f : between (OPEN ∷ (xs ++ CLOSE ∷ ys)) 0 (suc (length xs)) ≡ xs = ap (λ (k : ℕ). take k (xs ++ CLOSE ∷ ys)) e ∙ take_at xs (CLOSE ∷ ys) (length xs) refl in
      subst IsMatched (sym f) (matched_from_dyck xs d);
}

-- the next place, along the ring
one_on : (p n : ℕ) → suc p < n → (1 + p) % n ≡ suc p
one_on p n l = let e : 1 + p ≡ suc p = omega arith in ap (λ (k : ℕ). k % n) e ∙ mod_stays (suc p) n l

one_back : (p n : ℕ) → suc p ≡ n → (1 + p) % n ≡ 0
one_back p n l = let e : 1 + p ≡ n = omega arith in ap (λ (k : ℕ). k % n) e ∙ whole n (omega arith) where
  whole : (n : ℕ) → 0 < n → n % n ≡ 0
  whole n l = grind arith

not_bracket : (xs : List ℕ) (p q : ℕ) → IsOther (slice_index xs q) → AreBrackets xs p q → ⊥
not_bracket xs p q o h = elim h [ inl a ↦ o.not_close a.closes | inr a ↦ o.not_open a.opens ]

pub turned_letter : (x : ℕ) (xs : List ℕ) → IsOther x → IsTurned (x ∷ xs) 1 (xs ++ x ∷ [])
turned_letter x xs o = record {
  as_long = let a = length-append xs (x ∷ []) in omega (arith, a);
  letters = λ p l _ _.
      elim (cases_lt p (length xs)) [
        | inl h ↦ get_or_append_left xs (x ∷ []) 0 p h ∙ sym (ap (slice_index (x ∷ xs)) (one_on p (length (x ∷ xs)) (omega arith)))
        | inr h ↦ get_or_push xs x 0 p (omega arith) ∙ sym (ap (slice_index (x ∷ xs)) (one_back p (length (x ∷ xs)) (omega arith)))
      ];
  brackets = λ p q l m pair.
      elim (cases_lt q (length xs)) [
        | inl h ↦
            let there = are_at (x ∷ xs) ((1 + p) % length (x ∷ xs)) ((1 + q) % length (x ∷ xs)) (suc p) (suc q) (one_on p (length (x ∷ xs)) (omega arith)) (one_on q (length (x ∷ xs)) (omega arith)) pair in
            pair_more xs (x ∷ []) p q (pair_tail x xs p q (in_order (x ∷ xs) (suc p) (suc q) (omega arith) there))
        | inr h ↦
            let there = are_at (x ∷ xs) ((1 + p) % length (x ∷ xs)) ((1 + q) % length (x ∷ xs)) ((1 + p) % length (x ∷ xs)) 0 refl (one_back q (length (x ∷ xs)) (omega arith)) pair in
            absurd (not_bracket (x ∷ xs) ((1 + p) % length (x ∷ xs)) 0 o there)
      ];
}

-- a letter that isn't in the middle
letter_apart : (xs ys : List ℕ) (p : ℕ) → p < suc (length xs + length ys) → (p ≡ length xs → ⊥) → slice_index (xs ++ OPEN ∷ (ys ++ CLOSE ∷ [])) p ≡ slice_index (xs ++ CLOSE ∷ ys) p
letter_apart xs ys p l n =
    elim (cases_lt p (length xs)) [
      | inl h ↦ get_or_append_left xs (OPEN ∷ (ys ++ CLOSE ∷ [])) 0 p h ∙ sym (get_or_append_left xs (CLOSE ∷ ys) 0 p h)
      | inr h ↦
          let k : ℕ = p - suc (length xs) in
          let e : p ≡ length xs + suc k = omega arith in
          ap (slice_index (xs ++ OPEN ∷ (ys ++ CLOSE ∷ []))) e ∙ get_or-append-add xs (OPEN ∷ (ys ++ CLOSE ∷ [])) (suc k) 0
          ∙ get_or_append_left ys (CLOSE ∷ []) 0 k (omega arith)
          ∙ sym (ap (slice_index (xs ++ CLOSE ∷ ys)) e ∙ get_or-append-add xs (CLOSE ∷ ys) (suc k) 0)
    ]

-- pairs behind the middle
pair_apart : (xs ys : List ℕ) (p q : ℕ) → length xs < p → IsBracketPair (xs ++ CLOSE ∷ ys) p q → IsBracketPair (xs ++ OPEN ∷ (ys ++ CLOSE ∷ [])) p q
pair_apart xs ys p q l pair =
    let b = pair.before in
    let i : ℕ = p - suc (length xs) in
    let j : ℕ = q - suc (length xs) in
    let e : p ≡ length xs + suc i = omega arith in
    let f : q ≡ length xs + suc j = omega arith in
    let there = pair_at (xs ++ CLOSE ∷ ys) p q (length xs + suc i) (length xs + suc j) e f pair in
    let inner = pair_tail CLOSE ys i j (pair_back xs (CLOSE ∷ ys) (suc i) (suc j) there) in
    let more = pair_cons OPEN (ys ++ CLOSE ∷ []) i j (pair_more ys (CLOSE ∷ []) i j inner) in
    pair_at (xs ++ OPEN ∷ (ys ++ CLOSE ∷ [])) (length xs + suc i) (length xs + suc j) p q (sym e) (sym f) (pair_behind xs (OPEN ∷ (ys ++ CLOSE ∷ [])) (suc i) (suc j) more)

-- a pair besides the first
pair_kept : (xs ys : List ℕ) (p q : ℕ) → IsDyck xs → IsBracketPair (OPEN ∷ (xs ++ CLOSE ∷ ys)) (suc p) (suc q) → IsBracketPair (xs ++ OPEN ∷ (ys ++ CLOSE ∷ [])) p q
pair_kept xs ys p q d pair =
    let whole = whole_pair xs ys d in
    let there = pair_tail OPEN (xs ++ CLOSE ∷ ys) p q pair in
    elim (cases_order q (length xs)) [
      | inl e ↦
          let P : ℕ → Type 0 = λ k. IsBracketPair (OPEN ∷ (xs ++ CLOSE ∷ ys)) (suc p) k in
          let f : suc q ≡ suc (length xs) = omega arith in
          absurd (let g = one_opener (OPEN ∷ (xs ++ CLOSE ∷ ys)) 0 (suc (length xs)) (suc p) whole (subst P f pair) in omega arith)
      | inr n ↦ elim n [
        | inl l ↦ pair_more xs (OPEN ∷ (ys ++ CLOSE ∷ [])) p q (pair_less xs (CLOSE ∷ ys) p q l there)
        | inr m ↦ elim (cases_order p (length xs)) [
          | inl e ↦
              let a : slice_index (xs ++ CLOSE ∷ ys) p ≡ CLOSE = ap (slice_index (xs ++ CLOSE ∷ ys)) e ∙ get_or_at xs CLOSE ys 0 (length xs) refl in
              absurd (let o = there.opens in omega arith)
          | inr n' ↦ elim n' [
            | inl l ↦ absurd (let g = opens_inside (OPEN ∷ (xs ++ CLOSE ∷ ys)) 0 (suc (length xs)) (suc p) (suc q) whole pair (omega arith) (omega arith) in omega arith)
            | inr l ↦ pair_apart xs ys p q l there
          ]
        ]
      ]
    ]

-- the first pair
pair_over : (xs ys : List ℕ) (p q : ℕ) → IsDyck xs → IsDyck ys → q ≡ suc (length xs + length ys) → IsBracketPair (OPEN ∷ (xs ++ CLOSE ∷ ys)) 0 (suc p) → IsBracketPair (xs ++ OPEN ∷ (ys ++ CLOSE ∷ [])) p q
pair_over xs ys p q d b e pair =
    let f = one_closer (OPEN ∷ (xs ++ CLOSE ∷ ys)) 0 (suc (length xs)) (suc p) (whole_pair xs ys d) pair in
    let g : length xs + 0 ≡ p = omega arith in
    let h : length xs + suc (length ys) ≡ q = omega arith in
    pair_at (xs ++ OPEN ∷ (ys ++ CLOSE ∷ [])) (length xs + 0) (length xs + suc (length ys)) p q g h (pair_behind xs (OPEN ∷ (ys ++ CLOSE ∷ [])) 0 (suc (length ys)) (whole_pair ys [] b))

pub turned_bracket : (xs ys : List ℕ) → IsDyck xs → IsDyck ys → IsTurned (OPEN ∷ (xs ++ CLOSE ∷ ys)) 1 (xs ++ OPEN ∷ (ys ++ CLOSE ∷ []))
turned_bracket xs ys d b =
    let ring = OPEN ∷ (xs ++ CLOSE ∷ ys) in
    let a1 = length-append xs (CLOSE ∷ ys) in
    let a2 = length-append xs (OPEN ∷ (ys ++ CLOSE ∷ [])) in
    let a3 = length-append ys (CLOSE ∷ []) in
    record {
      as_long = omega (arith, a1, a2, a3);
      letters = λ p l no_open no_close.
          elim (cases_lt p (suc (length xs + length ys))) [
            | inl h ↦
                let there = one_on p (length (OPEN ∷ (xs ++ CLOSE ∷ ys))) (omega (arith, a1)) in
                let same = ap (slice_index (OPEN ∷ (xs ++ CLOSE ∷ ys))) there in
                let middle : p ≡ length xs → ⊥ = λ e. no_close (same ∙ ap (slice_index (xs ++ CLOSE ∷ ys)) e ∙ get_or_at xs CLOSE ys 0 (length xs) refl) in
                letter_apart xs ys p h middle ∙ sym same
            | inr h ↦ absurd (no_open (ap (slice_index (OPEN ∷ (xs ++ CLOSE ∷ ys))) (one_back p (length (OPEN ∷ (xs ++ CLOSE ∷ ys))) (omega (arith, a1)))))
          ];
      brackets = λ p q l m pair.
          let n : ℕ = length (OPEN ∷ (xs ++ CLOSE ∷ ys)) in
          elim (cases_lt q (suc (length xs + length ys))) [
            | inl h ↦
                let there = are_at (OPEN ∷ (xs ++ CLOSE ∷ ys)) ((1 + p) % n) ((1 + q) % n) (suc p) (suc q) (one_on p n (omega (arith, a1))) (one_on q n (omega (arith, a1))) pair in
                pair_kept xs ys p q d (in_order (OPEN ∷ (xs ++ CLOSE ∷ ys)) (suc p) (suc q) (omega arith) there)
            | inr h ↦
                let there = are_at (OPEN ∷ (xs ++ CLOSE ∷ ys)) ((1 + p) % n) ((1 + q) % n) (suc p) 0 (one_on p n (omega (arith, a1))) (one_back q n (omega (arith, a1))) pair in
                elim there [
                  | inl w ↦ absurd (let k = w.before in omega arith)
                  | inr w ↦ pair_over xs ys p q d b (omega (arith, a1)) w
                ]
          ];
    }

-- no turn
pub turned_none : (xs : List ℕ) → IsTurned xs 0 xs
turned_none xs = record {
  as_long = refl;
  letters = λ p l _ _. sym (ap (slice_index xs) (here p (length xs) l));
  brackets = λ p q l m pair.
      in_order xs p q l (are_at xs ((0 + p) % length xs) ((0 + q) % length xs) p q (here p (length xs) (omega arith)) (here q (length xs) m) pair);
} where
  here : (k n : ℕ) → k < n → (0 + k) % n ≡ k
  here k n l = let e : 0 + k ≡ k = omega arith in ap (λ (j : ℕ). j % n) e ∙ mod_stays k n l

-- one turn, and then another one
further : (start p n : ℕ) → (start + (1 + p) % n) % n ≡ (suc start + p) % n
further start p n =
    let e : start + (1 + p) ≡ suc start + p = omega arith in
    add-mod-mod start (1 + p) n ∙ ap (λ (k : ℕ). k % n) e

pub turned_more : (xs ys zs : List ℕ) (start : ℕ) → IsTurned xs start ys → IsTurned ys 1 zs → IsTurned xs (suc start) zs
turned_more xs ys zs start a b =
    let n : ℕ = length xs in
    let same : length ys ≡ length xs = a.as_long in
    let step : (p : ℕ) → ℕ = λ p. (1 + p) % length ys in
    let there : (p : ℕ) → place_from xs start (step p) ≡ place_from xs (suc start) p = λ p.
    ap (λ (k : ℕ). (start + (1 + p) % k) % length xs) same ∙ further start p (length xs) in
    let within : (p : ℕ) → p < length xs → step p < length xs = λ p l. remains (1 + p) (length ys) (length xs) same (omega arith) in
    record {
      as_long = b.as_long ∙ a.as_long;
      letters = λ p l no_open no_close.
          let e = ap (slice_index xs) (there p) in
          let f : slice_index ys (step p) ≡ slice_index xs (place_from xs start (step p)) =
          a.letters (step p) (within p l) (λ w. no_open (sym e ∙ w)) (λ w. no_close (sym e ∙ w)) in
          b.letters p (omega arith) (λ w. no_open (sym e ∙ sym f ∙ w)) (λ w. no_close (sym e ∙ sym f ∙ w)) ∙ f ∙ e;
      brackets = λ p q l m pair.
          let back = are_at xs (place_from xs (suc start) p) (place_from xs (suc start) q) (place_from xs start (step p)) (place_from xs start (step q)) (sym (there p)) (sym (there q)) pair in
          b.brackets p q l (omega arith) (elim (cases_order (step p) (step q)) [
            | inl e ↦ absurd (not_itself xs (place_from xs start (step p)) (place_from xs start (step q)) (ap (place_from xs start) e) back)
            | inr n ↦ elim n [
              | inl h ↦ inl (a.brackets (step p) (step q) h (within q m) back)
              | inr h ↦ inr (a.brackets (step q) (step p) h (within p (omega arith)) (flipped xs (place_from xs start (step p)) (place_from xs start (step q)) back))
            ]
          ]);
    } where
      remains : (k m n : ℕ) → m ≡ n → 0 < n → k % m < n
      remains k m n e l = grind arith
