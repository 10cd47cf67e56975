-- A reading with the open brackets in the order in which they came, and the faults that it finds.
use Rattle.std.proofs.Common.{◌≡◌, ℕ, zero, suc, ◌-◌, ◌<◌, ◌⊎◌, ◌↔◌, inl, inr, min, true, false, List, [], ◌∷◌, ◌++◌, length, reverse, slice_index, All, IsTrue, Option, Some, None, is_some, IsSome, MatchOption, option_to_list, refl, ap, ◌∙◌, sym, subst, arith}
use Rattle.std.proofs.lemmas.Bool.{cases_lt, cases_Bool, false≢true}
use Rattle.std.proofs.lemmas.List.{nil_from_length}
use Rattle.pm_brackets.specs.declared.letters.TheConstants.{OPEN, CLOSE}
use Rattle.pm_brackets.specs.First.{IsFirst}
use Rattle.pm_brackets.specs.Noted.{lesser}
use Rattle.pm_brackets.specs.Word.{is_letter_of, IsWordOf, IsFaultOf, IsFirstFault, IsTextFault}
use Rattle.pm_brackets.specs.Word.{IsMatched}
use Rattle.pm_brackets.specs.steps.Faults.{IsForeign, IsUnmatched, IsFirstUnmatched}
use Rattle.pm_brackets.specs.Word.IsFaultOf.{foreign, stray, unclosed}
use Rattle.pm_brackets.specs.Word.{IsOther}
use Rattle.pm_brackets.proofs.NodeWalk.{reverse_push}
use Rattle.pm_brackets.proofs.Stack.{HasRead, has_start, has_open, has_close, has_other, matched_at_end, stray_here, unclosed_here, matched_no_fault}

-- the brackets that are open before letter i, in the order in which they came, on each plant
pub record IsReading (word open_places : List ℕ) (i : ℕ) : Type 0 where
  pub read : (plant : ℕ) → IsOther plant → HasRead (plant ∷ word) (reverse open_places) (suc i)

-- some plant
pub zero_is_other : IsOther 0
zero_is_other = record { not_open = λ e. omega arith; not_close = λ e. omega arith }

pub reading_start : (word xs : List ℕ) → xs ≡ [] → IsReading word xs 0
reading_start word xs e =
    let P : List ℕ → Type 0 = λ zs. IsReading word zs 0 in
    subst P (sym e) (record { read = λ plant bare. has_start plant bare word })

-- what an empty pop says of a list
pub popped_none : (xs : List ℕ) (r : Option ℕ) (n : ℕ) → is_some r ≡ false → (IsSome r ↔ (0 < n)) → n ≡ length xs → xs ≡ []
popped_none xs None n h v e = nil_from_length xs (elim (cases_lt 0 n) [ inl l ↦ absurd (false≢true (v.1 l)) | inr g ↦ omega arith ])
popped_none xs (Some p) n h v e = absurd (false≢true (sym h))

pub reading_push : (word xs ys : List ℕ) (i j p : ℕ) → IsReading word xs i → slice_index word i ≡ OPEN → ys ≡ xs ++ p ∷ [] → p ≡ suc i → j ≡ suc i → IsReading word ys j
reading_push word xs ys i j p r o e h k =
    let f : suc i ∷ reverse xs ≡ reverse ys = ap (λ (q : ℕ). q ∷ reverse xs) (sym h) ∙ sym (reverse_push xs p) ∙ ap reverse (sym e) in
    let Q : ℕ → Type 0 = λ m. IsReading word ys m in
    subst Q (sym k) (record {
      read = λ plant bare.
          let P : List ℕ → Type 0 = λ zs. HasRead (plant ∷ word) zs (suc (suc i)) in
          subst P f (has_open (plant ∷ word) (reverse xs) (suc i) o (r.read plant bare));
    })

pub reading_other : (word xs ys : List ℕ) (i j : ℕ) → IsReading word xs i → IsOther (slice_index word i) → ys ≡ xs → j ≡ suc i → IsReading word ys j
reading_other word xs ys i j r o e k =
    let P : List ℕ → Type 0 = λ zs. IsReading word zs (suc i) in
    let Q : ℕ → Type 0 = λ m. IsReading word ys m in
    subst Q (sym k) (subst P (sym e) (record { read = λ plant bare. has_other (plant ∷ word) (reverse xs) (suc i) o (r.read plant bare) }))

pub reading_pop : (word xs ys : List ℕ) (i j : ℕ) (r : Option ℕ) → IsReading word xs i → slice_index word i ≡ CLOSE → xs ≡ ys ++ option_to_list r → is_some r ≡ true → j ≡ suc i → IsReading word ys j
reading_pop word xs ys i j None r x e n k = absurd (false≢true n)
reading_pop word xs ys i j (Some p) r x e n k =
    let f : reverse xs ≡ p ∷ reverse ys = ap reverse e ∙ reverse_push ys p in
    let Q : ℕ → Type 0 = λ m. IsReading word ys m in
    subst Q (sym k) (record {
      read = λ plant bare.
          let P : List ℕ → Type 0 = λ zs. HasRead (plant ∷ word) zs (suc i) in
          has_close (plant ∷ word) (reverse ys) p (suc i) x (subst P f (r.read plant bare));
    })

pub reading_stray : (word xs : List ℕ) (i j : ℕ) → IsReading word xs i → slice_index word i ≡ CLOSE → xs ≡ [] → j ≡ suc i → IsFirstUnmatched word j
reading_stray word xs i j r x e k others plant bare =
    let P : List ℕ → Type 0 = λ zs. HasRead (plant ∷ word) (reverse zs) (suc i) in
    let s : HasRead (plant ∷ word) [] (suc i) = subst P e (r.read plant bare) in
    let Q : ℕ → Type 0 = λ m. IsUnmatched others (plant ∷ word) m in
    subst Q (sym k) (stray_here others (plant ∷ word) s.other (suc i) bare x s.read)

pub reading_end : (word xs ys : List ℕ) (i n : ℕ) (r : Option ℕ) → IsReading word xs i → i ≡ length word → xs ≡ ys ++ option_to_list r → (IsSome r ↔ (0 < n)) → n ≡ length xs → MatchOption r (IsMatched word) (IsFirstUnmatched word)
reading_end word xs ys i n None r e f v l =
    let z : xs ≡ [] = popped_none xs None n refl v l in
    let P : List ℕ → Type 0 = λ zs. IsReading word zs i in
    let Q : ℕ → Type 0 = λ m. IsReading word [] m in
    matched_at_end 0 word ((subst Q e (subst P z r)).read 0 zero_is_other)
reading_end word xs ys i n (Some p) r e f v l = λ others plant bare.
    let g : reverse xs ≡ p ∷ reverse ys = ap reverse f ∙ reverse_push ys p in
    let P : List ℕ → Type 0 = λ zs. HasRead (plant ∷ word) zs (suc i) in
    let Q : ℕ → Type 0 = λ m. HasRead (plant ∷ word) (p ∷ reverse ys) (suc m) in
    let s : HasRead (plant ∷ word) (p ∷ reverse ys) (suc (length word)) = subst Q e (subst P g (r.read plant bare)) in
    unclosed_here others (plant ∷ word) s.other (reverse ys) p s.read

-- the least fault is the lesser of the first foreign letter and the first bracket at fault
fault_from_foreign : (others : List ℕ) (plant : ℕ) (word : List ℕ) (k : ℕ) → IsForeign others word k → IsFaultOf others (plant ∷ word) k
fault_from_foreign others plant word zero f = absurd (let b = f.behind in omega arith)
fault_from_foreign others plant word (suc k) f =
    let here : suc k - 1 ≡ k = omega arith in
    foreign (let w = f.within in omega arith) (λ good. f.breaks (subst (λ (j : ℕ). IsTrue (is_letter_of others (slice_index word j))) (sym here) good))

good_or_foreign : (others : List ℕ) (plant : ℕ) (word : List ℕ) (k : ℕ) → 0 < k → IsForeign others word k ⊎ (k < length (plant ∷ word) → IsTrue (is_letter_of others (slice_index (plant ∷ word) k)))
good_or_foreign others plant word zero some = absurd (omega arith)
good_or_foreign others plant word (suc k) some =
    elim (cases_lt k (length word)) [
      | inr g ↦ inr (λ l. absurd (omega arith))
      | inl l ↦ elim (cases_Bool (is_letter_of others (slice_index word k))) [
        | inl t ↦ inr (λ _. t)
        | inr f ↦
            let here : suc k - 1 ≡ k = omega arith in
            inl (record { behind = omega arith; within = omega arith; breaks = λ t. false≢true (sym f ∙ subst (λ (j : ℕ). IsTrue (is_letter_of others (slice_index word j))) here t) })
      ]
    ]

-- where no letter is foreign
none_foreign : (others word : List ℕ) (plant k : ℕ) → All (λ x. IsTrue (is_letter_of others x)) word → 0 < k → k < length (plant ∷ word) → IsTrue (is_letter_of others (slice_index (plant ∷ word) k))
none_foreign others word plant zero a some l = absurd (omega arith)
none_foreign others word plant (suc k) a some l = a k 0 (omega arith)

-- at the least fault of each kind
module _ (others word : List ℕ) (plant : ℕ) (bare : IsOther plant) where
  foreign_alone : (k : ℕ) → IsFirst (IsForeign others word) k → IsMatched word → IsFirst (IsTextFault others plant word) k
  foreign_alone k p q = record {
    here = record { behind = p.here.behind; fault = fault_from_foreign others plant word k p.here };
    least = λ j f.
        elim (good_or_foreign others plant word j f.behind) [
          | inl a ↦ p.least j a
          | inr g ↦ absurd (matched_no_fault others plant bare word j q f.fault g)
        ];
  }

  bracket_alone : (m : ℕ) → All (λ x. IsTrue (is_letter_of others x)) word → IsUnmatched others (plant ∷ word) m → IsFirst (IsTextFault others plant word) m
  bracket_alone m p q = record {
    here = record { behind = q.behind; fault = q.here };
    least = λ j f. q.least j f.fault (λ l. none_foreign others word plant j p f.behind l);
  }

  both_kinds : (k m : ℕ) → IsFirst (IsForeign others word) k → IsUnmatched others (plant ∷ word) m → IsFirst (IsTextFault others plant word) (min k m)
  both_kinds k m p q = record {
    here =
        let R : ℕ → Type 0 = λ j. IsTextFault others plant word j in
        elim (cases_lt k m) [
          | inl l ↦ (let e : min k m ≡ k = omega arith in subst R (sym e) (record { behind = p.here.behind; fault = fault_from_foreign others plant word k p.here }))
          | inr g ↦ (let e : min k m ≡ m = omega arith in subst R (sym e) (record { behind = q.behind; fault = q.here }))
        ];
    least = λ j f.
        elim (good_or_foreign others plant word j f.behind) [
          | inl a ↦ (let h = p.least j a in omega arith)
          | inr g ↦ (let h = q.least j f.fault g in omega arith)
        ];
  }

least_of : (others word : List ℕ) (a b : Option ℕ) → MatchOption a (All (λ x. IsTrue (is_letter_of others x)) word) (IsFirst (IsForeign others word)) → MatchOption b (IsMatched word) (IsFirstUnmatched word)
    → MatchOption (lesser a b) (IsWordOf others word) (IsFirstFault others word)
least_of others word None None p q = record { letters = p; matched = q }
least_of others word None (Some m) p q = λ plant bare. bracket_alone others word plant bare m p (q others plant bare)
least_of others word (Some k) None p q = λ plant bare. foreign_alone others word plant bare k p q
least_of others word (Some k) (Some m) p q = λ plant bare. both_kinds others word plant bare k m p (q others plant bare)

pub least_fault : (others word : List ℕ) (a b r : Option ℕ) → MatchOption a (All (λ x. IsTrue (is_letter_of others x)) word) (IsFirst (IsForeign others word)) → MatchOption b (IsMatched word) (IsFirstUnmatched word) → r ≡ lesser a b
    → MatchOption r (IsWordOf others word) (IsFirstFault others word)
least_fault others word a b r p q e =
    let P : Option ℕ → Type 0 = λ o. MatchOption o (IsWordOf others word) (IsFirstFault others word) in
    subst P (sym e) (least_of others word a b p q)

-- on a plant that may stand there the least fault behind it is the least of all
pub first_on_listed : (others word : List ℕ) (plant place : ℕ) → IsOther plant → IsTrue (is_letter_of others plant) → IsFirstFault others word place → IsFirst (IsFaultOf others (plant ∷ word)) place
first_on_listed others word plant place bare listed h = record {
  here = (h plant bare).here.fault;
  least = λ k f.
      elim (cases_lt 0 k) [
        | inl some ↦ (h plant bare).least k (record { behind = some; fault = f })
        | inr none ↦
            let e : k ≡ 0 = omega arith in
            let P : ℕ → Type 0 = λ j. IsFaultOf others (plant ∷ word) j in
            absurd (no_fault_at_plant (subst P e f))
      ];
} where
  no_fault_at_plant : IsFaultOf others (plant ∷ word) 0 → ⊥
  no_fault_at_plant (foreign n bad) = bad listed
  no_fault_at_plant (stray y none) = bare.not_close y
  no_fault_at_plant (unclosed y none later) = bare.not_open y
