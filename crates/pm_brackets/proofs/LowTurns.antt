-- A ring that is turned by the lows of its levels: the letters behind the start, and then those before it, read back.
use Rattle.std.proofs.Common.{◌≡◌, ℕ, suc, ◌+◌, ◌-◌, ◌%◌, ◌≤◌, ◌<◌, inl, inr, List, ◌∷◌, ◌++◌, length, take, drop, slice_index, set, refl, ap, sym, ◌∙◌, subst, arith, length-append, length-drop, length-take}
use Rattle.std.proofs.lemmas.Bool.{cases_lt, cases_eq}
use Rattle.std.proofs.lemmas.List.{get_or-set_same, get_or-set_other, get_or_append_left, get_or-drop, get_or-take, length-set}
use Rattle.std.proofs.Math.Nat.{add-mod_right}
use Rattle.std.proofs.Math.Seq.{get_or-append_right}
use Rattle.pm_brackets.specs.declared.letters.TheConstants.{OPEN, CLOSE}
use Rattle.pm_brackets.specs.Word.{IsOther, IsMatched}
use Rattle.pm_brackets.specs.Ring.{place_from, IsTurned}
use Rattle.pm_brackets.specs.steps.TurnedLetter.{IsTurnedLetter}
use Rattle.pm_brackets.proofs.Lows.{IsLow, low_start, low_other, low_open, low_close, low_sinks, back_other, back_close, back_open, back_sinks, no_opener_before, no_opener_behind, no_closer_behind, no_closer_before}
use Rattle.pm_brackets.proofs.RingPlaces.{mod_stays, are_at, plain_letter}
use Rattle.pm_brackets.proofs.Replants.{ring_of_letters}

-- The letters of the word up to here are turned, behind the start.
pub record IsAfter (plant : ℕ) (word : List ℕ) (start : ℕ) (letters : List ℕ) (i above : ℕ) : Type 0 where
  pub as_long : length letters ≡ length word
  pub low : IsLow (plant ∷ word) (suc start) (suc i) (suc i) above
  pub done : (k : ℕ) → start + k < i → IsTurnedLetter (plant ∷ word) start (suc k) (slice_index letters k)
  pub rest : (k : ℕ) → k < length word → i ≤ start + k → slice_index letters k ≡ slice_index (plant ∷ word) (place_from (plant ∷ word) start (suc k))

-- So are all behind the start, and those before it from here on.
pub record IsBefore (plant : ℕ) (word : List ℕ) (start : ℕ) (letters : List ℕ) (i above : ℕ) : Type 0 where
  pub as_long : length letters ≡ length word
  pub low : IsLow (plant ∷ word) (suc i) start (suc i) above
  pub after : (k : ℕ) → start + k < length word → IsTurnedLetter (plant ∷ word) start (suc k) (slice_index letters k)
  pub done : (k : ℕ) → k < length word → length word + i < start + k → IsTurnedLetter (plant ∷ word) start (suc k) (slice_index letters k)
  pub rest : (k : ℕ) → k < length word → length word ≤ start + k → start + k ≤ length word + i → slice_index letters k ≡ slice_index (plant ∷ word) (place_from (plant ∷ word) start (suc k))

module _ (plant : ℕ) (bare : IsOther plant) (word : List ℕ) (start : ℕ) (within : start ≤ length word) (here : slice_index (plant ∷ word) start ≡ plant) where
  pub on_first : (q : ℕ) → start + q ≤ length word → place_from (plant ∷ word) start q ≡ start + q
  on_first q l = mod_stays (start + q) (suc (length word)) (omega arith)

  pub on_second : (q : ℕ) → length word < start + q → q ≤ length word → place_from (plant ∷ word) start q + suc (length word) ≡ start + q
  on_second q l m =
      let n : ℕ = suc (length word) in
      let r : ℕ = start + q - suc (length word) in
      let e : start + q ≡ r + n = omega arith in
      let f : place_from (plant ∷ word) start q ≡ r = ap (λ (k : ℕ). k % n) e ∙ add-mod_right r n ∙ mod_stays r n (omega arith) in
      omega (arith, f)

  -- behind the start
  after_open : (p : ℕ) → start + p ≤ length word → slice_index (plant ∷ word) (start + p) ≡ OPEN → IsTurnedLetter (plant ∷ word) start p OPEN
  after_open p l x = record {
    kept = λ a b. absurd (a (ap (slice_index (plant ∷ word)) (on_first p l) ∙ x));
    opens = λ q _ _ _. refl;
    closes = λ q m a.
        elim (are_at (plant ∷ word) (place_from (plant ∷ word) start p) (place_from (plant ∷ word) start q) (start + p) (start + q) (on_first p l) (on_first q (omega arith)) a) [
          | inl b ↦ absurd (let o = b.before in omega arith)
          | inr b ↦ absurd (let y = b.closes in omega arith)
        ];
  }

  after_close : (p above : ℕ) → start + p ≤ length word → slice_index (plant ∷ word) (start + p) ≡ CLOSE → 0 < above → IsLow (plant ∷ word) (suc start) (start + p) (start + p) above → IsTurnedLetter (plant ∷ word) start p CLOSE
  after_close p above l x some low = record {
    kept = λ a b. absurd (b (ap (slice_index (plant ∷ word)) (on_first p l) ∙ x));
    opens = λ q m u a.
        elim (are_at (plant ∷ word) (place_from (plant ∷ word) start p) (place_from (plant ∷ word) start q) (start + p) (place_from (plant ∷ word) start q) (on_first p l) refl a) [
          | inl b ↦ absurd (let y = b.opens in omega arith)
          | inr b ↦ elim (cases_lt (length word) (start + q)) [
            | inl w ↦
                let e = on_second q w (omega arith) in
                absurd (no_opener_before (plant ∷ word) (suc start) (start + p) above (place_from (plant ∷ word) start q) some (omega (arith, e)) low b)
            | inr w ↦ absurd (let e = on_first q w in let o = b.before in omega (arith, e))
          ]
        ];
    closes = λ q _ _. refl;
  }

  after_low : (p : ℕ) → start + p ≤ length word → slice_index (plant ∷ word) (start + p) ≡ CLOSE → IsLow (plant ∷ word) (suc start) (start + p) (start + p) 0 → IsTurnedLetter (plant ∷ word) start p OPEN
  after_low p l x low = record {
    kept = λ a b. absurd (b (ap (slice_index (plant ∷ word)) (on_first p l) ∙ x));
    opens = λ q _ _ _. refl;
    closes = λ q m a.
        elim (are_at (plant ∷ word) (place_from (plant ∷ word) start p) (place_from (plant ∷ word) start q) (start + p) (start + q) (on_first p l) (on_first q (omega arith)) a) [
          | inl b ↦ absurd (let y = b.opens in omega arith)
          | inr b ↦ elim (cases_eq q 0) [
            | inl e ↦
                let f : start + q ≡ start = omega arith in
                absurd (bare.not_open (sym here ∙ ap (slice_index (plant ∷ word)) (sym f) ∙ b.opens))
            | inr n ↦ absurd (no_opener_behind (plant ∷ word) (suc start) (start + p) (start + q) (omega arith) low b)
          ]
        ];
  }

  -- before it
  before_close : (p place : ℕ) → p ≤ length word → place + suc (length word) ≡ start + p → slice_index (plant ∷ word) place ≡ CLOSE → IsTurnedLetter (plant ∷ word) start p CLOSE
  before_close p place l at x =
      let e : place_from (plant ∷ word) start p ≡ place = let f = on_second p (omega arith) l in omega (arith, f) in
      record {
        kept = λ a b. absurd (b (ap (slice_index (plant ∷ word)) e ∙ x));
        opens = λ q m u a.
            elim (are_at (plant ∷ word) (place_from (plant ∷ word) start p) (place_from (plant ∷ word) start q) place (place_from (plant ∷ word) start q) e refl a) [
              | inl b ↦ absurd (let y = b.opens in omega arith)
              | inr b ↦ absurd (let f = on_second q (omega arith) (omega arith) in let o = b.before in omega (arith, f))
            ];
        closes = λ q _ _. refl;
      }

  before_open : (p place above : ℕ) → p ≤ length word → place + suc (length word) ≡ start + p → slice_index (plant ∷ word) place ≡ OPEN → 0 < above → IsLow (plant ∷ word) (suc place) start (suc place) above → IsTurnedLetter (plant ∷ word) start p OPEN
  before_open p place above l at x some low =
      let e : place_from (plant ∷ word) start p ≡ place = let f = on_second p (omega arith) l in omega (arith, f) in
      record {
        kept = λ a b. absurd (a (ap (slice_index (plant ∷ word)) e ∙ x));
        opens = λ q _ _ _. refl;
        closes = λ q m a.
            elim (are_at (plant ∷ word) (place_from (plant ∷ word) start p) (place_from (plant ∷ word) start q) place (place_from (plant ∷ word) start q) e refl a) [
              | inl b ↦ elim (cases_lt (length word) (start + q)) [
                | inl w ↦ absurd (let f = on_second q w (omega arith) in let o = b.before in omega (arith, f))
                | inr w ↦
                    let f = on_first q w in
                    absurd (no_closer_behind (plant ∷ word) start place above (place_from (plant ∷ word) start q) some (omega (arith, f)) low b)
              ]
              | inr b ↦ absurd (let y = b.closes in omega arith)
            ];
      }

  before_low : (p place : ℕ) → p ≤ length word → place + suc (length word) ≡ start + p → slice_index (plant ∷ word) place ≡ OPEN → IsLow (plant ∷ word) (suc place) start (suc place) 0 → IsTurnedLetter (plant ∷ word) start p CLOSE
  before_low p place l at x low =
      let e : place_from (plant ∷ word) start p ≡ place = let f = on_second p (omega arith) l in omega (arith, f) in
      record {
        kept = λ a b. absurd (a (ap (slice_index (plant ∷ word)) e ∙ x));
        opens = λ q m u a.
            elim (are_at (plant ∷ word) (place_from (plant ∷ word) start p) (place_from (plant ∷ word) start q) place (place_from (plant ∷ word) start q) e refl a) [
              | inl b ↦
                  let f = on_second q (omega arith) (omega arith) in
                  absurd (no_closer_before (plant ∷ word) start place (place_from (plant ∷ word) start q) (omega (arith, f)) low b)
              | inr b ↦ absurd (let y = b.closes in omega arith)
            ];
        closes = λ q _ _. refl;
      }

  -- the letters as they stand, to begin with
  ring_length : 0 < start → length (drop start word ++ plant ∷ take (start - 1) word) ≡ length word
  ring_length some =
      let a = length-append (drop start word) (plant ∷ take (start - 1) word) in
      let b = length-drop start word in
      let c = length-take (start - 1) word in
      omega (arith, a, b, c)

  ring_letter : (k : ℕ) → 0 < start → k < length word → slice_index (drop start word ++ plant ∷ take (start - 1) word) k ≡ slice_index (plant ∷ word) (place_from (plant ∷ word) start (suc k))
  ring_letter k some l =
      let long = length-drop start word in
      elim (cases_lt (start + k) (length word)) [
        | inl u ↦
            let e : start + suc k ≡ suc (start + k) = omega arith in
            get_or_append_left (drop start word) (plant ∷ take (start - 1) word) 0 k (omega (arith, long)) ∙ get_or-drop start word k 0
            ∙ ap (slice_index (plant ∷ word)) (sym (on_first (suc k) (omega arith) ∙ e))
        | inr g ↦
            let j : ℕ = k - length (drop start word) in
            let f = on_second (suc k) (omega arith) l in
            let e : place_from (plant ∷ word) start (suc k) ≡ j = omega (arith, f, long) in
            let prefix : take start (plant ∷ word) ≡ plant ∷ take (start - 1) word =
            let n : start ≡ suc (start - 1) = omega arith in ap (λ (i : ℕ). take i (plant ∷ word)) n in
            get_or-append_right (drop start word) (plant ∷ take (start - 1) word) k 0 (omega (arith, long)) ∙ ap (λ (xs : List ℕ). slice_index xs j) (sym prefix)
            ∙ get_or-take start (plant ∷ word) j 0 (omega (arith, long)) ∙ ap (slice_index (plant ∷ word)) (sym e)
      ]

  pub after_start : (letters : List ℕ) → 0 < start → letters ≡ drop start word ++ plant ∷ take (start - 1) word → IsAfter plant word start letters start 0
  after_start letters some new =
      subst (λ (xs : List ℕ). IsAfter plant word start xs start 0) (sym new) (record {
        as_long = ring_length some;
        low = low_start (plant ∷ word) (suc start);
        done = λ k u. absurd (omega arith);
        rest = λ k u v. ring_letter k some u;
      })

  -- one letter more, behind the start
  after_step : (letters more : List ℕ) (i above next d x : ℕ) → IsAfter plant word start letters i above → start + d ≡ i → i < length word → length more ≡ length letters
      → ((k : ℕ) → (k ≡ d → ⊥) → slice_index more k ≡ slice_index letters k) → slice_index more d ≡ x → IsTurnedLetter (plant ∷ word) start (suc d) x
      → IsLow (plant ∷ word) (suc start) (suc (suc i)) (suc (suc i)) next → IsAfter plant word start more (suc i) next
  after_step letters more i above next d x h e l long same at turned low = record {
    as_long = long ∙ h.as_long;
    low = low;
    done = λ k u.
        elim (cases_eq k d) [
          | inl f ↦
              let P : ℕ → Type 0 = λ j. IsTurnedLetter (plant ∷ word) start (suc j) (slice_index more j) in
              subst P (sym f) (subst (IsTurnedLetter (plant ∷ word) start (suc d)) (sym at) turned)
          | inr n ↦ subst (IsTurnedLetter (plant ∷ word) start (suc k)) (sym (same k n)) (h.done k (omega arith))
        ];
    rest = λ k u v. same k (λ f. omega arith) ∙ h.rest k u (omega arith);
  }

  letter_at_step : (letters : List ℕ) (i above d : ℕ) → IsAfter plant word start letters i above → start + d ≡ i → i < length word → slice_index letters d ≡ slice_index word i
  letter_at_step letters i above d h e l =
      let f : start + suc d ≡ suc i = omega arith in
      h.rest d (omega arith) (omega arith) ∙ ap (slice_index (plant ∷ word)) (on_first (suc d) (omega arith) ∙ f)

  place_of_step : (i d : ℕ) → start + d ≡ i → start + suc d ≡ suc i
  place_of_step i d e = omega arith

  pub after_other : (letters : List ℕ) (i above d : ℕ) → IsAfter plant word start letters i above → start + d ≡ i → i < length word → IsOther (slice_index word i) → IsAfter plant word start letters (suc i) above
  after_other letters i above d h e l o =
      let f : place_from (plant ∷ word) start (suc d) ≡ suc i = on_first (suc d) (omega arith) ∙ place_of_step i d e in
      after_step letters letters i above above d (slice_index word i) h e l refl (λ k _. refl) (letter_at_step letters i above d h e l)
      (plain_letter (plant ∷ word) start (suc d) (slice_index word i) (subst (λ (k : ℕ). IsOther (slice_index (plant ∷ word) k)) (sym f) o) (ap (slice_index (plant ∷ word)) (sym f)))
      (low_other (plant ∷ word) (suc start) (suc i) above o h.low)

  low_at : (i d above : ℕ) → start + d ≡ i → IsLow (plant ∷ word) (suc start) (suc i) (suc i) above → IsLow (plant ∷ word) (suc start) (start + suc d) (start + suc d) above
  low_at i d above e low = let P : ℕ → Type 0 = λ k. IsLow (plant ∷ word) (suc start) k k above in subst P (sym (place_of_step i d e)) low

  bracket_at : (i d x : ℕ) → start + d ≡ i → slice_index word i ≡ x → slice_index (plant ∷ word) (start + suc d) ≡ x
  bracket_at i d x e y = ap (slice_index (plant ∷ word)) (place_of_step i d e) ∙ y

  pub after_opens : (letters : List ℕ) (i above d : ℕ) → IsAfter plant word start letters i above → start + d ≡ i → i < length word → slice_index word i ≡ OPEN → IsAfter plant word start letters (suc i) (suc above)
  after_opens letters i above d h e l x =
      after_step letters letters i above (suc above) d OPEN h e l refl (λ k _. refl) (letter_at_step letters i above d h e l ∙ x)
      (after_open (suc d) (omega arith) (bracket_at i d OPEN e x)) (low_open (plant ∷ word) (suc start) (suc i) above x h.low)

  pub after_closes : (letters : List ℕ) (i above d : ℕ) → IsAfter plant word start letters i above → start + d ≡ i → i < length word → slice_index word i ≡ CLOSE → 0 < above → IsAfter plant word start letters (suc i) (above - 1)
  after_closes letters i above d h e l x some =
      after_step letters letters i above (above - 1) d CLOSE h e l refl (λ k _. refl) (letter_at_step letters i above d h e l ∙ x)
      (after_close (suc d) above (omega arith) (bracket_at i d CLOSE e x) some (low_at i d above e h.low)) (low_close (plant ∷ word) (suc start) (suc i) above x some h.low)

  pub after_sinks : (letters more : List ℕ) (i above d : ℕ) → IsAfter plant word start letters i above → start + d ≡ i → i < length word → slice_index word i ≡ CLOSE → above ≡ 0 → more ≡ set letters d OPEN
      → IsAfter plant word start more (suc i) above
  after_sinks letters more i above d h e l x none new =
      let low : IsLow (plant ∷ word) (suc start) (suc i) (suc i) 0 = subst (IsLow (plant ∷ word) (suc start) (suc i) (suc i)) none h.low in
      let long = h.as_long in
      subst (λ (xs : List ℕ). IsAfter plant word start xs (suc i) above) (sym new)
      (after_step letters (set letters d OPEN) i above above d OPEN h e l (length-set letters d _) (λ k n. get_or-set_other letters d k OPEN 0 n) (get_or-set_same letters d OPEN 0 (omega (arith, long)))
      (after_low (suc d) (omega arith) (bracket_at i d CLOSE e x) (low_at i d 0 e low))
      (subst (IsLow (plant ∷ word) (suc start) (suc (suc i)) (suc (suc i))) (sym none) (low_sinks (plant ∷ word) (suc start) (suc i) x (omega arith) low)))

  -- one letter more, before it
  before_step : (letters more : List ℕ) (i above next d x : ℕ) → IsBefore plant word start letters (suc i) above → start + d ≡ length word + suc i → suc i < start → length more ≡ length letters
      → ((k : ℕ) → (k ≡ d → ⊥) → slice_index more k ≡ slice_index letters k) → slice_index more d ≡ x → IsTurnedLetter (plant ∷ word) start (suc d) x
      → IsLow (plant ∷ word) (suc i) start (suc i) next → IsBefore plant word start more i next
  before_step letters more i above next d x h e l long same at turned low = record {
    as_long = long ∙ h.as_long;
    low = low;
    after = λ k u. subst (IsTurnedLetter (plant ∷ word) start (suc k)) (sym (same k (λ f. omega arith))) (h.after k u);
    done = λ k u v.
        elim (cases_eq k d) [
          | inl f ↦
              let P : ℕ → Type 0 = λ j. IsTurnedLetter (plant ∷ word) start (suc j) (slice_index more j) in
              subst P (sym f) (subst (IsTurnedLetter (plant ∷ word) start (suc d)) (sym at) turned)
          | inr n ↦ subst (IsTurnedLetter (plant ∷ word) start (suc k)) (sym (same k n)) (h.done k u (omega arith))
        ];
    rest = λ k u v w. same k (λ f. omega arith) ∙ h.rest k u v (omega arith);
  }

  step_before : (i d : ℕ) → start + d ≡ length word + suc i → suc i < start → place_from (plant ∷ word) start (suc d) ≡ suc i
  step_before i d e l = let f = on_second (suc d) (omega arith) (omega arith) in omega (arith, f)

  letter_before : (letters : List ℕ) (i above d : ℕ) → IsBefore plant word start letters (suc i) above → start + d ≡ length word + suc i → suc i < start → slice_index letters d ≡ slice_index word i
  letter_before letters i above d h e l = h.rest d (omega arith) (omega arith) (omega arith) ∙ ap (slice_index (plant ∷ word)) (step_before i d e l)

  pub before_other : (letters : List ℕ) (i above d : ℕ) → IsBefore plant word start letters (suc i) above → start + d ≡ length word + suc i → suc i < start → IsOther (slice_index word i) → IsBefore plant word start letters i above
  before_other letters i above d h e l o =
      let f : place_from (plant ∷ word) start (suc d) ≡ suc i = step_before i d e l in
      before_step letters letters i above above d (slice_index word i) h e l refl (λ k _. refl) (letter_before letters i above d h e l)
      (plain_letter (plant ∷ word) start (suc d) (slice_index word i) (subst (λ (k : ℕ). IsOther (slice_index (plant ∷ word) k)) (sym f) o) (ap (slice_index (plant ∷ word)) (sym f)))
      (back_other (plant ∷ word) start (suc i) above o h.low)

  pub before_closes : (letters : List ℕ) (i above d : ℕ) → IsBefore plant word start letters (suc i) above → start + d ≡ length word + suc i → suc i < start → slice_index word i ≡ CLOSE → IsBefore plant word start letters i (suc above)
  before_closes letters i above d h e l x =
      before_step letters letters i above (suc above) d CLOSE h e l refl (λ k _. refl) (letter_before letters i above d h e l ∙ x)
      (before_close (suc d) (suc i) (omega arith) (omega arith) x) (back_close (plant ∷ word) start (suc i) above x h.low)

  pub before_opens : (letters : List ℕ) (i above d : ℕ) → IsBefore plant word start letters (suc i) above → start + d ≡ length word + suc i → suc i < start → slice_index word i ≡ OPEN → 0 < above → IsBefore plant word start letters i (above - 1)
  before_opens letters i above d h e l x some =
      before_step letters letters i above (above - 1) d OPEN h e l refl (λ k _. refl) (letter_before letters i above d h e l ∙ x)
      (before_open (suc d) (suc i) above (omega arith) (omega arith) x some h.low) (back_open (plant ∷ word) start (suc i) above x some h.low)

  pub before_sinks : (letters more : List ℕ) (i above d : ℕ) → IsBefore plant word start letters (suc i) above → start + d ≡ length word + suc i → suc i < start → slice_index word i ≡ OPEN → above ≡ 0 → more ≡ set letters d CLOSE
      → IsBefore plant word start more i above
  before_sinks letters more i above d h e l x none new =
      let low : IsLow (plant ∷ word) (suc (suc i)) start (suc (suc i)) 0 = subst (IsLow (plant ∷ word) (suc (suc i)) start (suc (suc i))) none h.low in
      let long = h.as_long in
      subst (λ (xs : List ℕ). IsBefore plant word start xs i above) (sym new)
      (before_step letters (set letters d CLOSE) i above above d CLOSE h e l (length-set letters d _) (λ k n. get_or-set_other letters d k CLOSE 0 n) (get_or-set_same letters d CLOSE 0 (omega (arith, long)))
      (before_low (suc d) (suc i) (omega arith) (omega arith) x low)
      (subst (IsLow (plant ∷ word) (suc i) start (suc i)) (sym none) (back_sinks (plant ∷ word) start (suc i) x l low)))

  -- from the one part to the other, and the end
  pub before_start : (letters : List ℕ) (i above last : ℕ) → IsAfter plant word start letters i above → i ≡ length word → suc last ≡ start → IsBefore plant word start letters last 0
  before_start letters i above last h e f = record {
    as_long = h.as_long;
    low = let P : ℕ → Type 0 = λ k. IsLow (plant ∷ word) (suc last) k (suc last) 0 in subst P f (low_start (plant ∷ word) (suc last));
    after = λ k u. h.done k (omega arith);
    done = λ k u v. absurd (omega arith);
    rest = λ k u v w. h.rest k u (omega arith);
  }

  pub turned_whole : (letters : List ℕ) (above : ℕ) → IsMatched word → IsBefore plant word start letters 0 above → IsTurned (plant ∷ word) start (plant ∷ letters)
  turned_whole letters above m h =
      ring_of_letters plant bare word start letters m (omega arith) here h.as_long (λ k u.
      let long = h.as_long in
      elim (cases_lt (start + k) (length word)) [
        | inl l ↦ h.after k l
        | inr g ↦ elim (cases_lt (length word) (start + k)) [
          | inl l ↦ h.done k (omega (arith, long)) (omega arith)
          | inr le ↦
              let e : place_from (plant ∷ word) start (suc k) ≡ 0 = let f = on_second (suc k) (omega arith) (omega (arith, long)) in omega (arith, f) in
              plain_letter (plant ∷ word) start (suc k) (slice_index letters k) (subst (λ (j : ℕ). IsOther (slice_index (plant ∷ word) j)) (sym e) bare) (h.rest k (omega (arith, long)) g (omega arith))
        ]
      ])
