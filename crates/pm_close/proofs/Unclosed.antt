-- The edges of one kind that are met but not closed yet, on a stack with the darts of their first places.
use Rattle.std.proofs.Common.{◌≡◌, ◌≢◌, ℕ, suc, ◌<◌, ◌≤◌, ◌==◌, inl, inr, cond, List, [], ◌∷◌, ◌++◌, length, refl, sym, ◌∙◌, ap, subst, arith, eq-eqb, ne_eqb}
use Rattle.std.specs.Prelude.{slice_index, Option, Some, option_to_list}
use Rattle.std.proofs.lemmas.Bool.{cases_lt, cases_eq}
use Rattle.std.proofs.lemmas.List.{length_push, get_or_push, get_or_append_left}
use Rattle.pm_map.specs.EdgeNumbers.{dart_of}

-- the edges whose first place is of this kind: each is closed behind its first place, and one that begins within another
-- is closed within it
pub record IsKind (kind : ℕ → Type 0) (t : ℕ → ℕ) (n : ℕ) : Type 0 where
  pub ahead : (p : ℕ) → p < n → kind p → p < t p
  pub back : (p : ℕ) → p < n → t (t p) ≡ p
  pub nested : (p r : ℕ) → r < n → kind p → kind r → p < r → r < t p → t r < t p

-- the darts of the first places of this kind before place i whose edges aren't closed before it, in the order of places
pub record IsUnclosed (kind : ℕ → Type 0) (t : ℕ → ℕ) (i : ℕ) (stack : List ℕ) : Type 0 where
  pub place : ℕ → ℕ
  pub of_kind : (h : ℕ) → h < length stack → kind (place h)
  pub before : (h : ℕ) → h < length stack → place h < i
  pub unclosed : (h : ℕ) → h < length stack → i ≤ t (place h)
  pub dart : (h : ℕ) → h < length stack → slice_index stack h ≡ dart_of t (place h)
  pub rising : (h : ℕ) → h < length stack → (g : ℕ) → g < h → place g < place h
  pub every : (p : ℕ) → p < i → kind p → i ≤ t p → (h : ℕ) × (h < length stack) × (place h ≡ p)

-- one value more of a function
placed : (ℕ → ℕ) → ℕ → ℕ → ℕ → ℕ
placed f m x k = cond (k == m) x (f k)

placed_here : (f : ℕ → ℕ) (m x : ℕ) → placed f m x m ≡ x
unfolding placed
placed_here f m x = rw (eq-eqb m m refl) refl

placed_other : (f : ℕ → ℕ) (m x k : ℕ) → k ≢ m → placed f m x k ≡ f k
unfolding placed
placed_other f m x k ne = rw (ne_eqb k m ne) refl

-- what holds of the values so far and of the new one holds of all
placed_each : (P : ℕ → ℕ → Type 0) (f : ℕ → ℕ) (m x : ℕ) → ((k : ℕ) → k < m → P k (f k)) → P m x → (k : ℕ) → k < suc m → P k (placed f m x k)
placed_each P f m x old new k l = elim (cases_eq k m) [
  | inl e ↦ subst (λ (j : ℕ). P j (placed f m x j)) (sym e) (subst (P m) (sym (placed_here f m x)) new)
  | inr ne ↦ subst (P k) (sym (placed_other f m x k ne)) (old k (omega arith))
]

-- no edge is closed at a place that begins one
first_closes_none : (kind : ℕ → Type 0) (t : ℕ → ℕ) (n i p : ℕ) → IsKind kind t n → i < n → i < t i → p < n → i ≤ t p → p < i → suc i ≤ t p
first_closes_none kind t n i p k i_in up p_in late before = elim (cases_eq (t p) i) [
  | inl e ↦ absurd (let f = ap t e in omega (arith, k.back p p_in, f, up, before))
  | inr ne ↦ omega arith
]

-- the first place of an edge of the kind
push_one : (kind : ℕ → Type 0) (t : ℕ → ℕ) (n i d : ℕ) (stack : List ℕ) → IsKind kind t n → i < n → kind i → d ≡ dart_of t i → IsUnclosed kind t i stack → IsUnclosed kind t (suc i) (stack ++ d ∷ [])
push_one kind t n i d stack k i_in here is h =
    let m : ℕ = length stack in
    let long : length (stack ++ d ∷ []) ≡ suc (length stack) = omega (arith, length_push stack d) in
    let up = k.ahead i i_in here in
    record {
      place = placed h.place m i;
      of_kind = λ j l. placed_each (λ _ p. kind p) h.place m i h.of_kind here j (omega arith);
      before = λ j l. placed_each (λ _ p. p < suc i) h.place m i (λ j l. omega (arith, h.before j l)) (omega arith) j (omega arith);
      unclosed = λ j l. placed_each (λ _ p. suc i ≤ t p) h.place m i
          (λ j l. first_closes_none kind t n i (h.place j) k i_in up (omega (arith, h.before j l)) (h.unclosed j l) (h.before j l)) up j (omega arith);
      dart = λ j l. placed_each (λ j p. slice_index (stack ++ d ∷ []) j ≡ dart_of t p) h.place m i
          (λ j l. get_or_append_left stack (d ∷ []) 0 j l ∙ h.dart j l) (get_or_push stack d 0 (length stack) refl ∙ is) j (omega arith);
      rising = λ j l. placed_each (λ j p. (g : ℕ) → g < j → placed h.place m i g < p) h.place m i
          (λ j l g less. let ne : g ≢ m = omega arith in omega (arith, placed_other h.place m i g ne, h.rising j l g less))
          (λ g less. let ne : g ≢ m = omega arith in omega (arith, placed_other h.place m i g ne, h.before g less)) j (omega arith);
      every = λ p l of ahead. elim (cases_eq p i) [
        | inl e ↦ (m, omega arith, placed_here h.place m i ∙ sym e)
        | inr ne ↦
            let old = h.every p (omega arith) of (omega arith) in
            let low : old.0 < m = old.1 in
            let apart : old.0 ≢ m = omega arith in
            (old.0, omega (arith, low), placed_other h.place m i old.0 apart ∙ old.2)
      ];
    }

pub unclosed_more : (kind : ℕ → Type 0) (t : ℕ → ℕ) (n i d : ℕ) (stack more : List ℕ) → IsKind kind t n → i < n → kind i → more ≡ stack ++ d ∷ [] → d ≡ dart_of t i → IsUnclosed kind t i stack → IsUnclosed kind t (suc i) more
unclosed_more kind t n i d stack more k i_in here e is h = subst (IsUnclosed kind t (suc i)) (sym e) (push_one kind t n i d stack k i_in here is h)

-- a place that is neither the first nor the second of such an edge
pub unclosed_same : (kind : ℕ → Type 0) (t : ℕ → ℕ) (n i : ℕ) (stack : List ℕ) → IsKind kind t n → i < n → (kind i → ⊥) → (kind (t i) → ⊥) → IsUnclosed kind t i stack → IsUnclosed kind t (suc i) stack
unclosed_same kind t n i stack k i_in not_here not_there h = record {
  place = h.place;
  of_kind = h.of_kind;
  before = λ j l. omega (arith, h.before j l);
  unclosed = λ j l. elim (cases_eq (t (h.place j)) i) [
    | inl e ↦ absurd (not_there (subst kind (sym (ap t (sym e) ∙ k.back (h.place j) (omega (arith, h.before j l)))) (h.of_kind j l)))
    | inr ne ↦ omega (arith, h.unclosed j l)
  ];
  dart = h.dart;
  rising = h.rising;
  every = λ p l of ahead. elim (cases_eq p i) [
    | inl e ↦ absurd (not_here (subst kind e of))
    | inr ne ↦ h.every p (omega arith) of (omega arith)
  ];
}

-- the edge that is closed at this place is the last one on the stack
pub record IsTop (kind : ℕ → Type 0) (t : ℕ → ℕ) (i d : ℕ) (rest : List ℕ) : Type 0 where
  pub is : d ≡ dart_of t (t i)
  pub below : IsUnclosed kind t (suc i) rest

top_place : (kind : ℕ → Type 0) (t : ℕ → ℕ) (n i d : ℕ) (rest : List ℕ) → IsKind kind t n → i < n → kind (t i) → t i < i → (h : IsUnclosed kind t i (rest ++ d ∷ [])) → h.place (length rest) ≡ t i
top_place kind t n i d rest k i_in there down h =
    let long : length (rest ++ d ∷ []) ≡ suc (length rest) = omega (arith, length_push rest d) in
    let back = k.back i i_in in
    let found = h.every (t i) down there (omega arith) in
    let low : found.0 < length (rest ++ d ∷ []) = found.1 in
    let at : h.place found.0 ≡ t i = found.2 in
    elim (cases_lt found.0 (length rest)) [
      | inr high ↦ let same : found.0 ≡ length rest = omega arith in ap h.place (sym same) ∙ at
      | inl under ↦
          let last : length rest < length (rest ++ d ∷ []) = omega arith in
          let over = h.rising (length rest) last found.0 under in
          let before = h.before (length rest) last in
          let inside = k.nested (t i) (h.place (length rest)) (omega arith) there (h.of_kind (length rest) last) (omega arith) (omega arith) in
          absurd (omega (arith, inside, h.unclosed (length rest) last))
    ]

pop_one : (kind : ℕ → Type 0) (t : ℕ → ℕ) (n i d : ℕ) (rest : List ℕ) → IsKind kind t n → i < n → kind (t i) → t i < i → IsUnclosed kind t i (rest ++ d ∷ []) → IsTop kind t i d rest
pop_one kind t n i d rest k i_in there down h =
    let long : length (rest ++ d ∷ []) ≡ suc (length rest) = omega (arith, length_push rest d) in
    let back = k.back i i_in in
    let top = top_place kind t n i d rest k i_in there down h in
    let last : length rest < length (rest ++ d ∷ []) = omega arith in
    record {
      is = sym (get_or_push rest d 0 (length rest) refl) ∙ h.dart (length rest) last ∙ ap (dart_of t) top;
      below = record {
        place = h.place;
        of_kind = λ j l. h.of_kind j (omega arith);
        before = λ j l. omega (arith, h.before j (omega arith));
        unclosed = λ j l. elim (cases_eq (t (h.place j)) i) [
          | inl e ↦
              let under = h.rising (length rest) last j l in
              let same = ap t e in
              let twice = k.back (h.place j) (omega (arith, h.before j (omega arith))) in
              absurd (omega (arith, under, same, twice, top))
          | inr ne ↦ omega (arith, h.unclosed j (omega arith))
        ];
        dart = λ j l. sym (get_or_append_left rest (d ∷ []) 0 j l) ∙ h.dart j (omega arith);
        rising = λ j l g less. h.rising j (omega arith) g less;
        every = λ p l of ahead. elim (cases_eq p i) [
          | inl e ↦ absurd (let up = k.ahead p (omega arith) of in let same = ap t e in omega arith)
          | inr ne ↦
              let found = h.every p (omega arith) of (omega arith) in
              let low : found.0 < length (rest ++ d ∷ []) = found.1 in
              let at : h.place found.0 ≡ p = found.2 in
              elim (cases_eq found.0 (length rest)) [
                | inl e ↦ absurd (let same = ap h.place e in let twice = ap t (sym at ∙ same ∙ top) in omega arith)
                | inr apart ↦ (found.0, omega arith, at)
              ]
        ];
      };
    }

pub unclosed_less : (kind : ℕ → Type 0) (t : ℕ → ℕ) (n i d : ℕ) (stack rest : List ℕ) (r : Option ℕ) → IsKind kind t n → i < n → kind (t i) → t i < i → stack ≡ rest ++ option_to_list r → r ≡ Some d → IsUnclosed kind t i stack → IsTop kind t i d rest
unclosed_less kind t n i d stack rest r k i_in there down e f h =
    let popped : stack ≡ rest ++ d ∷ [] = e ∙ ap (λ (o : Option ℕ). rest ++ option_to_list o) f in
    pop_one kind t n i d rest k i_in there down (subst (IsUnclosed kind t i) popped h)

-- so there is one
pub unclosed_some : (kind : ℕ → Type 0) (t : ℕ → ℕ) (n i : ℕ) (stack : List ℕ) → IsKind kind t n → i < n → kind (t i) → t i < i → IsUnclosed kind t i stack → 0 < length stack
unclosed_some kind t n i stack k i_in there down h =
    let back = k.back i i_in in
    let found = h.every (t i) down there (omega arith) in
    let low : found.0 < length stack = found.1 in
    omega arith

-- before the first place of the kind
pub unclosed_none : (kind : ℕ → Type 0) (t : ℕ → ℕ) (i : ℕ) → ((p : ℕ) → p < i → kind p → ⊥) → IsUnclosed kind t i []
unclosed_none kind t i none = record {
  place = λ h. h;
  of_kind = λ h l. absurd (omega arith);
  before = λ h l. absurd (omega arith);
  unclosed = λ h l. absurd (omega arith);
  dart = λ h l. absurd (omega arith);
  rising = λ h l. absurd (omega arith);
  every = λ p l of ahead. absurd (none p l of);
}
