-- The open brackets of a text that has been read up to a place, and what they say of its pairs and its faults.
use Rattle.std.proofs.Common.{◌≡◌, ℕ, zero, suc, ◌+◌, ◌-◌, ◌≤◌, ◌<◌, ◌⊎◌, inl, inr, List, [], ◌∷◌, length, take, slice_index, All, IsTrue, refl, ap, ◌∙◌, sym, subst, arith, take_all, ◌==◌, eq-eqb, ne_eqb, cond}
use Rattle.std.proofs.lemmas.Bool.{cases_lt, cases_eq}
use Rattle.pm_brackets.specs.declared.letters.TheConstants.{OPEN, CLOSE}
use Rattle.pm_brackets.specs.Word.{count, IsMatched, IsBracketPair}
use Rattle.pm_brackets.specs.Word.{is_letter_of, IsWordOf, IsFaultOf}
use Rattle.pm_brackets.specs.steps.Faults.{IsUnmatched}
use Rattle.pm_brackets.specs.Word.IsFaultOf.{foreign, stray, unclosed}
use Rattle.pm_brackets.proofs.Tally.{tally_is, tally_no}
use Rattle.pm_brackets.specs.Word.{IsOther}
use Rattle.pm_brackets.proofs.Levels.{seen, seen_is, seen_none, inside, seen_yes, seen_no, IsEven, even_start, even_other, even_pair, pair_from_even, even_from_pair, matched_from_even}

-- matching brackets strictly between two places
pub record IsStretch (places : List ℕ) (p q : ℕ) : Type 0 where
  pub before : p < q
  pub even : IsEven places p q

-- open brackets, the last one first, with matching brackets between each and the next, and up to the place
abbrev pub IsChain : List ℕ → List ℕ → ℕ → Type 0
IsChain places [] i = IsStretch places 0 i
IsChain places (s ∷ rest) i = IsStretch places s i × (slice_index places s ≡ OPEN) × IsChain places rest s

abbrev pub IsAmong : ℕ → List ℕ → Type 0
IsAmong p [] = ⊥
IsAmong p (s ∷ rest) = (p ≡ s) ⊎ IsAmong p rest

-- The state of a reading before the place: the open brackets, and the other bracket of each bracket that isn't open.
pub record IsRead (places : List ℕ) (other : ℕ → ℕ) (open_places : List ℕ) (i : ℕ) : Type 0 where
  pub chain : IsChain places open_places i
  pub closed : (q : ℕ) → q < i → slice_index places q ≡ CLOSE → IsBracketPair places (other q) q
  pub opened : (p : ℕ) → p < i → slice_index places p ≡ OPEN → IsAmong p open_places ⊎ IsBracketPair places p (other p)
  pub letter : (p : ℕ) → p < i → IsOther (slice_index places p) → other p ≡ p

-- the new answer stands as it was before the place, but at a bracket
pub record IsKept (old new : ℕ → ℕ) (i : ℕ) : Type 0 where
  pub same : (k : ℕ) → k < i → new k ≡ old k

pub record IsKeptBut (old new : ℕ → ℕ) (s i : ℕ) : Type 0 where
  pub same : (k : ℕ) → k < i → (k ≡ s → ⊥) → new k ≡ old k
  pub here : new s ≡ i
  pub there : new i ≡ s

pair_to : (places : List ℕ) (p q r : ℕ) → r ≡ q → IsBracketPair places p q → IsBracketPair places p r
pair_to places p q r e b = let P : ℕ → Type 0 = λ x. IsBracketPair places p x in subst P (sym e) b

pair_of : (places : List ℕ) (p q r : ℕ) → r ≡ p → IsBracketPair places p q → IsBracketPair places r q
pair_of places p q r e b = let P : ℕ → Type 0 = λ x. IsBracketPair places x q in subst P (sym e) b

letter_at : (places : List ℕ) (p q x : ℕ) → p ≡ q → slice_index places p ≡ x → slice_index places q ≡ x
letter_at places p q x e h = let P : ℕ → Type 0 = λ k. slice_index places k ≡ x in subst P e h

pub read_start : (places : List ℕ) (other : ℕ → ℕ) → IsOther (slice_index places 0) → other 0 ≡ 0 → IsRead places other [] 1
read_start places other o h = record {
  chain = record { before = omega arith; even = even_start places 0 };
  closed = λ q l x. absurd (o.not_close (letter_at places q 0 CLOSE (omega arith) x));
  opened = λ p l x. absurd (o.not_open (letter_at places p 0 OPEN (omega arith) x));
  letter = λ p l x. let e : p ≡ 0 = omega arith in ap other e ∙ h ∙ sym e;
}

chain_other : (places open_places : List ℕ) (i : ℕ) → IsOther (slice_index places i) → IsChain places open_places i → IsChain places open_places (suc i)
chain_other places [] i o c = record { before = let b = c.before in omega arith; even = even_other places 0 i c.before o c.even }
chain_other places (s ∷ rest) i o c =
    (record { before = let b = c.0.before in omega arith; even = even_other places s i c.0.before o c.0.even }, c.1, c.2)

pub read_other : (places : List ℕ) (old new : ℕ → ℕ) (open_places : List ℕ) (i : ℕ) → IsOther (slice_index places i) → IsKept old new i → new i ≡ i → IsRead places old open_places i → IsRead places new open_places (suc i)
read_other places old new open_places i o k h r = record {
  chain = chain_other places open_places i o r.chain;
  closed = λ q l x.
      elim (cases_eq q i) [
        | inl e ↦ absurd (o.not_close (letter_at places q i CLOSE e x))
        | inr n ↦ let b : q < i = omega arith in pair_of places (old q) q (new q) (k.same q b) (r.closed q b x)
      ];
  opened = λ p l x.
      elim (cases_eq p i) [
        | inl e ↦ absurd (o.not_open (letter_at places p i OPEN e x))
        | inr n ↦
            let b : p < i = omega arith in
            elim (r.opened p b x) [ inl a ↦ inl a | inr a ↦ inr (pair_to places p (old p) (new p) (k.same p b) a) ]
      ];
  letter = λ p l x.
      elim (cases_eq p i) [
        | inl e ↦ ap new e ∙ h ∙ sym e
        | inr n ↦ let b : p < i = omega arith in k.same p b ∙ r.letter p b x
      ];
}

pub read_open : (places : List ℕ) (old new : ℕ → ℕ) (open_places : List ℕ) (i : ℕ) → slice_index places i ≡ OPEN → IsKept old new i → IsRead places old open_places i → IsRead places new (i ∷ open_places) (suc i)
read_open places old new open_places i o k r = record {
  chain = (record { before = omega arith; even = even_start places i }, o, r.chain);
  closed = λ q l x.
      elim (cases_eq q i) [
        | inl e ↦ absurd (let f = letter_at places q i CLOSE e x in omega arith)
        | inr n ↦ let b : q < i = omega arith in pair_of places (old q) q (new q) (k.same q b) (r.closed q b x)
      ];
  opened = λ p l x.
      elim (cases_eq p i) [
        | inl e ↦ inl (inl e)
        | inr n ↦
            let b : p < i = omega arith in
            elim (r.opened p b x) [ inl a ↦ inl (inr a) | inr a ↦ inr (pair_to places p (old p) (new p) (k.same p b) a) ]
      ];
  letter = λ p l x.
      elim (cases_eq p i) [
        | inl e ↦ absurd (x.not_open (letter_at places i p OPEN (sym e) o))
        | inr n ↦ let b : p < i = omega arith in k.same p b ∙ r.letter p b x
      ];
}

chain_close : (places rest : List ℕ) (s i : ℕ) → slice_index places i ≡ CLOSE → IsChain places (s ∷ rest) i → IsChain places rest (suc i)
chain_close places [] s i x c =
    let b = c.0.before in
    let d = c.2.before in
    record { before = omega arith; even = even_pair places 0 s i d b c.1 x c.2.even c.0.even }
chain_close places (t ∷ rest) s i x c =
    let b = c.0.before in
    let d = c.2.0.before in
    (record { before = omega arith; even = even_pair places t s i d b c.1 x c.2.0.even c.0.even }, c.2.1, c.2.2)

pub read_close : (places : List ℕ) (old new : ℕ → ℕ) (rest : List ℕ) (s i : ℕ) → slice_index places i ≡ CLOSE → IsKeptBut old new s i → IsRead places old (s ∷ rest) i → IsRead places new rest (suc i)
read_close places old new rest s i x k r =
    let pair : IsBracketPair places s i = pair_from_even places s i r.chain.0.before r.chain.1 x r.chain.0.even in
    record {
      chain = chain_close places rest s i x r.chain;
      closed = λ q l y.
          elim (cases_eq q i) [
            | inl e ↦
                let P : ℕ → Type 0 = λ j. IsBracketPair places (new j) j in
                subst P (sym e) (pair_of places s i (new i) k.there pair)
            | inr n ↦
                let b : q < i = omega arith in
                let d : q ≡ s → ⊥ = λ e. let f = letter_at places q s CLOSE e y in let g = r.chain.1 in omega arith in
                pair_of places (old q) q (new q) (k.same q b d) (r.closed q b y)
          ];
      opened = λ p l y.
          elim (cases_eq p s) [
            | inl e ↦
                let P : ℕ → Type 0 = λ j. IsBracketPair places j (new j) in
                inr (subst P (sym e) (pair_to places s i (new s) k.here pair))
            | inr n ↦
                let d : p ≡ i → ⊥ = λ e. let f = letter_at places p i OPEN e y in omega arith in
                let b : p < i = omega arith in
                elim (r.opened p b y) [
                  | inl a ↦ elim a [ inl e ↦ absurd (n e) | inr w ↦ inl w ]
                  | inr a ↦ inr (pair_to places p (old p) (new p) (k.same p b n) a)
                ]
          ];
      letter = λ p l y.
          elim (cases_eq p i) [
            | inl e ↦ absurd (y.not_close (letter_at places i p CLOSE (sym e) x))
            | inr n ↦
                let b : p < i = omega arith in
                let d : p ≡ s → ⊥ = λ e. y.not_open (letter_at places s p OPEN (sym e) r.chain.1) in
                k.same p b d ∙ r.letter p b y
          ];
    }

-- as many brackets are open as stand on the stack
pub chain_level : (places open_places : List ℕ) (i : ℕ) → IsOther (slice_index places 0) → IsChain places open_places i → seen OPEN places i ≡ seen CLOSE places i + length open_places
chain_level places [] i o c =
    let a = seen_no OPEN places 0 o.not_open in
    let b = seen_no CLOSE places 0 o.not_close in
    let d = seen_none OPEN places in
    let e = seen_none CLOSE places in
    let f = c.even.equal in
    omega (arith, a, b, d, e, f)
chain_level places (s ∷ rest) i o c =
    let h = chain_level places rest s o c.2 in
    let a = seen_yes OPEN places s (omega arith) c.1 in
    let x = c.1 in
    let b = seen_no CLOSE places s (λ e. omega arith) in
    let f = c.0.even.equal in
    omega (arith, h, a, b, f)

-- a `)` with no open bracket closes nothing
pub no_opener : (places : List ℕ) (i p : ℕ) → IsOther (slice_index places 0) → IsChain places [] i → IsBracketPair places p i → ⊥
no_opener places i p o c b =
    let e = even_from_pair places p i b in
    let l = b.before in
    let x = b.opens in
    let z : p ≡ 0 → ⊥ = λ e. o.not_open (letter_at places p 0 OPEN e x) in
    let m = c.even.below p (omega arith) (omega arith) in
    let a = seen_yes OPEN places p (omega arith) x in
    let d = seen_no CLOSE places p (λ w. omega arith) in
    let f = seen_no OPEN places 0 o.not_open in
    let g = seen_no CLOSE places 0 o.not_close in
    let h = seen_none OPEN places in
    let j = seen_none CLOSE places in
    omega (arith, e.equal, m, a, d, f, g, h, j, c.even.equal)

-- an open bracket at the end is never closed
pub no_closer : (places rest : List ℕ) (s q : ℕ) → IsChain places (s ∷ rest) (length places) → IsBracketPair places s q → ⊥
no_closer places rest s q c b =
    let e = even_from_pair places s q b in
    let l = b.before in
    let y = b.closes in
    let i = inside places q CLOSE (omega arith) y in
    let m = c.0.even.below (suc q) (omega arith) (omega arith) in
    let a = seen_yes CLOSE places q (omega arith) y in
    let d = seen_no OPEN places q (λ w. omega arith) in
    omega (arith, e.equal, m, a, d)

pub among_below : (places rest : List ℕ) (s i p : ℕ) → IsChain places (s ∷ rest) i → IsAmong p (s ∷ rest) → p ≤ s
among_below places [] s i p c a = elim a [ inl e ↦ omega arith | inr w ↦ absurd w ]
among_below places (t ∷ rest) s i p c a =
    elim a [
      | inl e ↦ omega arith
      | inr w ↦ let h = among_below places rest t s p c.2 w in let b = c.2.0.before in omega arith
    ]

pub stray_here : (others places : List ℕ) (other : ℕ → ℕ) (i : ℕ) → IsOther (slice_index places 0) → slice_index places i ≡ CLOSE → IsRead places other [] i → IsUnmatched others places i
stray_here others places other i o x r = record {
  behind = r.chain.before;
  here = stray x (λ p b. no_opener places i p o r.chain b);
  least = λ k f good.
      elim (cases_lt k i) [
        | inr g ↦ g
        | inl l ↦ elim f [
          | foreign n bad ↦ absurd (bad (good n))
          | stray y none ↦ absurd (none (other k) (r.closed k l y))
          | unclosed y none later ↦ elim (r.opened k l y) [ inl a ↦ absurd a | inr b ↦ absurd (none (other k) b) ]
        ]
      ];
}

opener_behind : (places rest : List ℕ) (s : ℕ) → IsChain places rest s → 0 < s
opener_behind places [] s c = c.before
opener_behind places (t ∷ rest) s c = let b = c.0.before in omega (arith, b)

pub unclosed_here : (others places : List ℕ) (other : ℕ → ℕ) (rest : List ℕ) (s : ℕ) → IsRead places other (s ∷ rest) (length places) → IsUnmatched others places s
unclosed_here others places other rest s r = record {
  behind = opener_behind places rest s r.chain.2;
  here = unclosed r.chain.1 (λ q b. no_closer places rest s q r.chain b)
      (λ p l x.
      elim (r.opened p (inside places p OPEN (omega arith) x) x) [
        | inl a ↦ absurd (let h = among_below places rest s (length places) p r.chain a in omega arith)
        | inr b ↦ (other p, b)
      ]);
  least = λ k f good.
      elim (cases_lt k s) [
        | inr g ↦ g
        | inl l ↦
            let n : k < length places = let b = r.chain.0.before in omega arith in
            elim f [
              | foreign m bad ↦ absurd (bad (good m))
              | stray y none ↦ absurd (none (other k) (r.closed k n y))
              | unclosed y none later ↦ let w = later s l r.chain.1 in absurd (no_closer places rest s w.0 r.chain w.1)
            ]
      ];
}

-- some answer fits the reading so far
pub record HasRead (places open_places : List ℕ) (i : ℕ) : Type 0 where
  pub other : ℕ → ℕ
  pub read : IsRead places other open_places i

fixed : (ℕ → ℕ) → ℕ → ℕ → ℕ
fixed other i k = cond (k == i) i (other k)

fixed_kept : (other : ℕ → ℕ) (i : ℕ) → IsKept other (fixed other i) i
unfolding fixed
fixed_kept other i = record { same = λ k l. let n : k ≡ i → ⊥ = omega arith in rw (ne_eqb k i n) refl }

fixed_here : (other : ℕ → ℕ) (i : ℕ) → fixed other i i ≡ i
unfolding fixed
fixed_here other i = rw (eq-eqb i i refl) refl

paired : (ℕ → ℕ) → ℕ → ℕ → ℕ → ℕ
paired other s i k = cond (k == s) i (cond (k == i) s (other k))

paired_kept : (other : ℕ → ℕ) (s i : ℕ) → s < i → IsKeptBut other (paired other s i) s i
unfolding paired
paired_kept other s i h = record {
  same = λ k l m. let n : k ≡ i → ⊥ = omega arith in rw (ne_eqb k s m, ne_eqb k i n) refl;
  here = rw (eq-eqb s s refl) refl;
  there = let n : i ≡ s → ⊥ = omega arith in rw (ne_eqb i s n, eq-eqb i i refl) refl;
}

pub has_start : (plant : ℕ) → IsOther plant → (word : List ℕ) → HasRead (plant ∷ word) [] 1
has_start plant bare word = record {
  other = λ k. k;
  read = read_start (plant ∷ word) (λ k. k) bare refl;
}

pub has_other : (places open_places : List ℕ) (i : ℕ) → IsOther (slice_index places i) → HasRead places open_places i → HasRead places open_places (suc i)
has_other places open_places i o r = record {
  other = fixed r.other i;
  read = read_other places r.other (fixed r.other i) open_places i o (fixed_kept r.other i) (fixed_here r.other i) r.read;
}

pub has_open : (places open_places : List ℕ) (i : ℕ) → slice_index places i ≡ OPEN → HasRead places open_places i → HasRead places (i ∷ open_places) (suc i)
has_open places open_places i o r = record {
  other = fixed r.other i;
  read = read_open places r.other (fixed r.other i) open_places i o (fixed_kept r.other i) r.read;
}

pub has_close : (places rest : List ℕ) (s i : ℕ) → slice_index places i ≡ CLOSE → HasRead places (s ∷ rest) i → HasRead places rest (suc i)
has_close places rest s i x r = record {
  other = paired r.other s i;
  read = read_close places r.other (paired r.other s i) rest s i x (paired_kept r.other s i r.read.chain.0.before) r.read;
}

pub matched_at_end : (plant : ℕ) (word : List ℕ) → HasRead (plant ∷ word) [] (suc (length word)) → IsMatched word
matched_at_end plant word r =
    let m = matched_from_even (plant ∷ word) 0 (suc (length word)) r.read.chain.before r.read.chain.even in
    let e : take (suc (length word) - 1) word ≡ word = take_all (suc (length word) - 1) word (omega arith) in
    let P : List ℕ → Type 0 = λ xs. IsMatched xs in
    subst P e m

-- how often a letter stands before a place behind a plant that is another letter
pub seen_in_word : (letter plant : ℕ) (word : List ℕ) (k : ℕ) → (plant ≡ letter → ⊥) → seen letter (plant ∷ word) (suc k) ≡ count letter (take k word)
seen_in_word letter plant word k n =
    seen_is letter (plant ∷ word) (suc k) ∙ tally_no letter plant (take k word) n ∙ tally_is letter (take k word)

-- where no prefix has more `)` than `(`, no `)` meets an empty stack
pub close_has_opener : (plant : ℕ) → IsOther plant → (word : List ℕ) (i : ℕ) → IsMatched word → slice_index (plant ∷ word) (suc i) ≡ CLOSE → IsChain (plant ∷ word) [] (suc i) → ⊥
close_has_opener plant bare word i m x c =
    let a = chain_level (plant ∷ word) [] (suc i) bare c in
    let b = seen_yes CLOSE (plant ∷ word) (suc i) (omega arith) x in
    let d = seen_no OPEN (plant ∷ word) (suc i) (λ e. omega arith) in
    let f = seen_in_word CLOSE plant word (suc i) bare.not_close in
    let g = seen_in_word OPEN plant word (suc i) bare.not_open in
    let n = m.never_below (suc i) in
    omega (arith, a, b, d, f, g, n)

-- where as many close as open, no bracket is open at the end
pub none_open_at_end : (plant : ℕ) → IsOther plant → (word open_places : List ℕ) → IsMatched word → IsChain (plant ∷ word) open_places (suc (length word)) → open_places ≡ []
none_open_at_end plant bare word [] m c = refl
none_open_at_end plant bare word (s ∷ rest) m c =
    let a = chain_level (plant ∷ word) (s ∷ rest) (suc (length word)) bare c in
    let f = seen_in_word CLOSE plant word (length word) bare.not_close in
    let g = seen_in_word OPEN plant word (length word) bare.not_open in
    let t : take (length word) word ≡ word = take_all (length word) word (omega arith) in
    let u = ap (count OPEN) t in
    let v = ap (count CLOSE) t in
    absurd (omega (arith, a, f, g, u, v, m.equal))

record SomeRead (plant : ℕ) (word : List ℕ) (i : ℕ) : Type 0 where
  stack : List ℕ
  has : HasRead (plant ∷ word) stack i

close_step : (plant : ℕ) → IsOther plant → (word stack : List ℕ) (i : ℕ) → IsMatched word → slice_index (plant ∷ word) (suc i) ≡ CLOSE → HasRead (plant ∷ word) stack (suc i) → SomeRead plant word (suc (suc i))
close_step plant bare word [] i m x r = absurd (close_has_opener plant bare word i m x r.read.chain)
close_step plant bare word (s ∷ rest) i m x r = record { stack = rest; has = has_close (plant ∷ word) rest s (suc i) x r }

some_step : (plant : ℕ) → IsOther plant → (word : List ℕ) (i : ℕ) → IsMatched word → SomeRead plant word (suc i) → SomeRead plant word (suc (suc i))
some_step plant bare word i m r =
    elim (cases_eq (slice_index (plant ∷ word) (suc i)) OPEN) [
      | inl o ↦ record { stack = suc i ∷ r.stack; has = has_open (plant ∷ word) r.stack (suc i) o r.has }
      | inr other ↦ elim (cases_eq (slice_index (plant ∷ word) (suc i)) CLOSE) [
        | inl c ↦ close_step plant bare word r.stack i m c r.has
        | inr neither ↦ record { stack = r.stack; has = has_other (plant ∷ word) r.stack (suc i) (record { not_open = other; not_close = neither }) r.has }
      ]
    ]

some_read : (plant : ℕ) → IsOther plant → (word : List ℕ) (i : ℕ) → IsMatched word → SomeRead plant word (suc i)
some_read plant bare word zero m = record { stack = []; has = has_start plant bare word }
some_read plant bare word (suc i) m = some_step plant bare word i m (some_read plant bare word i m)

-- a word with matched brackets has the pairs of all its brackets
pub matched_read : (plant : ℕ) → IsOther plant → (word : List ℕ) → IsMatched word → HasRead (plant ∷ word) [] (suc (length word))
matched_read plant bare word m =
    let r = some_read plant bare word (length word) m in
    let e = none_open_at_end plant bare word r.stack m r.has.read.chain in
    let P : List ℕ → Type 0 = λ xs. HasRead (plant ∷ word) xs (suc (length word)) in
    subst P e r.has

-- where the brackets match, no letter that may stand there is at fault
pub matched_no_fault : (others : List ℕ) (plant : ℕ) → IsOther plant → (word : List ℕ) (k : ℕ) → IsMatched word → IsFaultOf others (plant ∷ word) k → (k < length (plant ∷ word) → IsTrue (is_letter_of others (slice_index (plant ∷ word) k))) → ⊥
matched_no_fault others plant bare word k m f good =
    let r = matched_read plant bare word m in
    elim f [
      | foreign n bad ↦ bad (good n)
      | stray y none ↦ none (r.other k) (r.read.closed k (inside (plant ∷ word) k CLOSE (omega arith) y) y)
      | unclosed y none later ↦
          elim (r.read.opened k (inside (plant ∷ word) k OPEN (omega arith) y) y) [ inl a ↦ absurd a | inr b ↦ none (r.other k) b ]
    ]

pub letters_at : (others : List ℕ) (plant : ℕ) → IsTrue (is_letter_of others plant) → (word : List ℕ) (k : ℕ) → All (λ x. IsTrue (is_letter_of others x)) word → k < length (plant ∷ word) → IsTrue (is_letter_of others (slice_index (plant ∷ word) k))
letters_at others plant listed word zero a l = listed
letters_at others plant listed word (suc k) a l = a k 0 (omega arith)

-- a word that is in order has no fault
pub no_fault : (others : List ℕ) (plant : ℕ) → IsOther plant → IsTrue (is_letter_of others plant) → (word : List ℕ) (k : ℕ) → IsWordOf others word → IsFaultOf others (plant ∷ word) k → ⊥
no_fault others plant bare listed word k o f = matched_no_fault others plant bare word k o.matched f (λ l. letters_at others plant listed word k o.letters l)
