-- The places of a letter, by their numbers, and what they become in a ring that is read from one of them on.
use Rattle.std.proofs.Common.{◌≡◌, ℕ, zero, suc, ◌+◌, ◌-◌, ◌%◌, ◌≤◌, ◌<◌, inl, inr, List, [], ◌∷◌, length, take, slice_index, ap, sym, ◌∙◌, subst, arith, take_all}
use Rattle.std.proofs.lemmas.Bool.{cases_eq, cases_lt, cases_order}
use Rattle.std.proofs.Math.Nat.{add-mod_right}
use Rattle.pm_brackets.specs.Word.{IsOther, count, IsBracketing, IsLetterAt}
use Rattle.pm_brackets.specs.Ring.{place_from, IsTurned}
use Rattle.pm_brackets.proofs.Tally.{tally, tally_is, tally-nil, tally_yes, tally_no}
use Rattle.pm_brackets.proofs.LetterCounts.{seen_counts}
use Rattle.pm_brackets.proofs.Levels.{seen, seen_none, seen_yes, seen_no, inside}
use Rattle.pm_brackets.proofs.RingPlaces.{mod_stays, letter_back}

-- the place of the letter of a number
pub record HasPlace (letter : ℕ) (xs : List ℕ) (number : ℕ) : Type 0 where
  pub place : ℕ
  pub is_letter : IsLetterAt letter xs number place

-- a letter that is none of those past the end
module _ (letter : ℕ) (some : 0 < letter) where
  pub seen_all : (xs : List ℕ) → seen letter xs (length xs) ≡ count letter xs
  seen_all xs = seen_counts letter xs (length xs) ∙ ap (count letter) (take_all (length xs) xs (omega arith))

  seen_grows : (xs : List ℕ) (p n : ℕ) → seen letter xs p ≤ seen letter xs (n + p)
  seen_grows xs p zero = let e : 0 + p ≡ p = omega arith in let f = ap (seen letter xs) e in omega (arith, f)
  seen_grows xs p (suc n) =
      let h = seen_grows xs p n in
      let e : suc n + p ≡ suc (n + p) = omega arith in
      let f = ap (seen letter xs) e in
      elim (cases_eq (slice_index xs (n + p)) letter) [
        | inl y ↦ (let a = seen_yes letter xs (n + p) some y in omega (arith, a, f, h))
        | inr m ↦ (let a = seen_no letter xs (n + p) m in omega (arith, a, f, h))
      ]

  pub seen_up : (xs : List ℕ) (p q : ℕ) → p ≤ q → seen letter xs p ≤ seen letter xs q
  seen_up xs p q l =
      let h = seen_grows xs p (q - p) in
      let e : (q - p) + p ≡ q = omega arith in
      let f = ap (seen letter xs) e in
      omega (arith, f, h)

  -- where the letter stands before another place, it has a lower number
  pub letter_below : (xs : List ℕ) (number p q : ℕ) → IsLetterAt letter xs number p → p < q → number < seen letter xs q
  letter_below xs number p q h l =
      let a = seen_yes letter xs p some h.here in
      let b = seen_counts letter xs p in
      let c = seen_up xs (suc p) q (omega arith) in
      let d = h.before in
      omega (arith, a, b, c, d)

  pub letter_within : (xs : List ℕ) (number p : ℕ) → IsLetterAt letter xs number p → p < length xs
  letter_within xs number p h = inside xs p letter some h.here

  pub letter_few : (xs : List ℕ) (number p : ℕ) → IsLetterAt letter xs number p → number < count letter xs
  letter_few xs number p h =
      let a = letter_below xs number p (length xs) h (letter_within xs number p h) in
      let b = seen_all xs in
      omega (arith, a, b)

  -- a number has one place
  pub one_place : (xs : List ℕ) (number p q : ℕ) → IsLetterAt letter xs number p → IsLetterAt letter xs number q → p ≡ q
  one_place xs number p q h i =
      let a = seen_counts letter xs p in
      let b = seen_counts letter xs q in
      let c = h.before in
      let d = i.before in
      elim (cases_order p q) [
        | inl e ↦ e
        | inr n ↦ elim n [
          | inl l ↦ absurd (let f = letter_below xs number p q h l in omega (arith, b, d, f))
          | inr l ↦ absurd (let f = letter_below xs number q p i l in omega (arith, a, c, f))
        ]
      ]

  -- and each number below theirs has one: behind one letter more each place is one further, with one number more where that letter is the one
  behind : (x : ℕ) (xs : List ℕ) (number more after : ℕ) → ((ys : List ℕ) → tally letter (x ∷ ys) ≡ more + tally letter ys) → after ≡ more + number → HasPlace letter xs number → HasPlace letter (x ∷ xs) after
  behind x xs number more after counted is rest = record {
    place = suc rest.place;
    is_letter = record {
      here = rest.is_letter.here;
      before =
          let d = rest.is_letter.before in
          let e = tally_is letter (take (suc rest.place) (x ∷ xs)) in
          let f = tally_is letter (take rest.place xs) in
          let g = counted (take rest.place xs) in
          omega (arith, d, e, f, g, is);
    };
  }

  from_letter : (x : ℕ) (xs : List ℕ) (k : ℕ) → x ≡ letter → k < suc (count letter xs) → ((j : ℕ) → j < count letter xs → HasPlace letter xs j) → HasPlace letter (x ∷ xs) k
  from_letter x xs zero y _ _ = record { place = 0; is_letter = record { here = y; before = let a = tally_is letter [] in let b = tally-nil letter in omega (arith, a, b) } }
  from_letter x xs (suc k) y m next = behind x xs k 1 (suc k) (λ ys. let e = tally_yes letter x ys y in omega (arith, e)) (omega arith) (next k (omega arith))

  pub place_exists : (xs : List ℕ) (number : ℕ) → number < count letter xs → HasPlace letter xs number
  place_exists [] number l = let a = tally_is letter [] in let b = tally-nil letter in absurd (omega (arith, a, b))
  place_exists (x ∷ xs) number l =
      let a = tally_is letter (x ∷ xs) in
      let b = tally_is letter xs in
      elim (cases_eq x letter) [
        | inl y ↦ from_letter x xs number y (let c = tally_yes letter x xs y in omega (arith, a, b, c)) (λ k m. place_exists xs k m)
        | inr n ↦
            let c = tally_no letter x xs n in
            behind x xs number 0 number (λ ys. let e = tally_no letter x ys n in omega (arith, e)) (omega arith) (place_exists xs number (omega (arith, a, b, c)))
      ]

-- a ring read from a place on
module _ (letter : ℕ) (some : 0 < letter) (bare : IsOther letter) (xs other turned : List ℕ) (start : ℕ) (b : IsBracketing xs other) (s : start < length xs) (t : IsTurned xs start turned) where
  letter_stays : (p : ℕ) → p < length xs → slice_index xs (place_from xs start p) ≡ letter → slice_index turned p ≡ letter
  letter_stays p l h = t.letters p l (λ o. bare.not_open (sym h ∙ o)) (λ o. bare.not_close (sym h ∙ o)) ∙ h

  other_stays : (p : ℕ) → p < length xs → (slice_index xs (place_from xs start p) ≡ letter → ⊥) → slice_index turned p ≡ letter → ⊥
  other_stays p l n h =
      n (sym (letter_back xs other turned start p b (omega arith) t l (record { not_open = λ o. bare.not_open (sym h ∙ o); not_close = λ o. bare.not_close (sym h ∙ o) })) ∙ h)

  -- as many in one step
  one_step : (p q : ℕ) → p < length xs → place_from xs start p ≡ q → seen letter turned (suc p) + seen letter xs q ≡ seen letter turned p + seen letter xs (suc q)
  one_step p q l e =
      let f = ap (slice_index xs) e in
      elim (cases_eq (slice_index xs q) letter) [
        | inl y ↦
            let c = seen_yes letter xs q some y in
            let d = seen_yes letter turned p some (letter_stays p l (f ∙ y)) in
            omega (arith, c, d)
        | inr n ↦
            let c = seen_no letter xs q n in
            let d = seen_no letter turned p (other_stays p l (λ y. n (sym f ∙ y))) in
            omega (arith, c, d)
      ]

  prefix : (p : ℕ) → p + start ≤ length xs → seen letter turned p + seen letter xs start ≡ seen letter xs (start + p)
  prefix zero l =
      let e : start + 0 ≡ start = omega arith in
      let f = ap (seen letter xs) e in
      let g = seen_none letter turned in
      omega (arith, f, g)
  prefix (suc p) l =
      let h = prefix p (omega arith) in
      let e : start + suc p ≡ suc (start + p) = omega arith in
      let f = ap (seen letter xs) e in
      let g = one_step p (start + p) (omega arith) (mod_stays (start + p) (length xs) (omega arith)) in
      omega (arith, f, g, h)

  back : (p : ℕ) → p ≤ start → seen letter turned ((length xs - start) + p) + seen letter xs start ≡ count letter xs + seen letter xs p
  back zero l =
      let h = prefix (length xs - start) (omega arith) in
      let e : (length xs - start) + 0 ≡ length xs - start = omega arith in
      let f = ap (seen letter turned) e in
      let g : start + (length xs - start) ≡ length xs = omega arith in
      let i = ap (seen letter xs) g in
      let j = seen_all letter some xs in
      let k = seen_none letter xs in
      omega (arith, f, h, i, j, k)
  back (suc p) l =
      let h = back p (omega arith) in
      let e : (length xs - start) + suc p ≡ suc ((length xs - start) + p) = omega arith in
      let f = ap (seen letter turned) e in
      let g : start + ((length xs - start) + p) ≡ p + length xs = omega arith in
      let i : place_from xs start ((length xs - start) + p) ≡ p = ap (λ (k : ℕ). k % length xs) g ∙ add-mod_right p (length xs) ∙ mod_stays p (length xs) (omega arith) in
      let j = one_step ((length xs - start) + p) p (omega arith) i in
      omega (arith, f, h, j)

  -- the number of a place, from its old number and that of the start
  pub turned_number : (planted number p : ℕ) → p < length xs → IsLetterAt letter xs planted start → IsLetterAt letter xs number (place_from xs start p) → IsLetterAt letter turned ((number + (count letter xs - planted)) % count letter xs) p
  turned_number planted number p l at_start h = record {
    here = letter_stays p l h.here;
    before =
        let few = letter_few letter some xs planted start at_start in
        let a = seen_counts letter turned p in
        let c = seen_counts letter xs start in
        let d = at_start.before in
        elim (cases_lt (start + p) (length xs)) [
          | inl m ↦
              let e : place_from xs start p ≡ start + p = mod_stays (start + p) (length xs) m in
              let moved : IsLetterAt letter xs number (start + p) = subst (IsLetterAt letter xs number) e h in
              let f = prefix p (omega arith) in
              let g = seen_counts letter xs (start + p) in
              let i = moved.before in
              let j = letter_few letter some xs number (start + p) moved in
              let k : number + (count letter xs - planted) ≡ seen letter turned p + count letter xs = omega (arith, c, d, f, g, i) in
              let u : seen letter turned p < count letter xs = omega (arith, c, d, f, g, i, j) in
              sym a ∙ sym (ap (λ (v : ℕ). v % count letter xs) k ∙ add-mod_right (seen letter turned p) (count letter xs) ∙ mod_stays (seen letter turned p) (count letter xs) u)
          | inr m ↦
              let q : ℕ = (start + p) - length xs in
              let v : start + p ≡ q + length xs = omega arith in
              let e : place_from xs start p ≡ q = ap (λ (k : ℕ). k % length xs) v ∙ add-mod_right q (length xs) ∙ mod_stays q (length xs) (omega arith) in
              let moved : IsLetterAt letter xs number q = subst (IsLetterAt letter xs number) e h in
              let w : (length xs - start) + q ≡ p = omega arith in
              let f = back q (omega arith) in
              let f' = ap (seen letter turned) w in
              let g = seen_counts letter xs q in
              let i = moved.before in
              let j = letter_below letter some xs number q start moved (omega arith) in
              let k : number + (count letter xs - planted) ≡ seen letter turned p = omega (arith, c, d, f, f', g, i) in
              let u : number + (count letter xs - planted) < count letter xs = omega (arith, c, d, j) in
              sym a ∙ sym (mod_stays (number + (count letter xs - planted)) (count letter xs) u ∙ k)
        ];
  }
