-- Words that are planted anew, at another place of their plant's letter: each can be in one way, the places are numbered from
-- the new plant on, and planting at the old plant undoes it.
use Rattle.std.proofs.Common.{◌≡◌, ℕ, zero, suc, ◌+◌, ◌%◌, ◌<◌, List, [], ◌∷◌, length, take, drop, slice_index, refl, ap, sym, ◌∙◌, subst, arith}
use Rattle.pm_brackets.specs.declared.letters.TheConstants.{OPEN, CLOSE}
use Rattle.pm_brackets.specs.Word.{IsOther, IsMatched, IsLetterAt, count}
use Rattle.pm_brackets.specs.Ring.{place_from, number_after, IsTurned, IsReplantedAt}
use Rattle.pm_brackets.specs.steps.TurnedLetter.{IsTurnedLetter}
use Rattle.pm_brackets.proofs.Tally.{tally, tally_is, tally_no}
use Rattle.pm_brackets.proofs.LetterCounts.{plant_is_first}
use Rattle.pm_brackets.proofs.Dyck.{IsDyck, matched_from_dyck}
use Rattle.pm_brackets.proofs.Bracketed.{bracketing_exists}
use Rattle.pm_brackets.proofs.RingPlaces.{mod_stays, steps_to, steps_to_is, steps_under, steps_lead, steps_back, plain_letter, turned_letters, one_ring, turned_back}
use Rattle.pm_brackets.proofs.Rings.{ring_turned, none_stays, tallies_stay}
use Rattle.pm_brackets.proofs.LetterTurns.{letter_within, place_exists, one_place, turned_number}

-- the number of the old plant leads back to that of the new one
pub number_back : (total number : ℕ) → number < total → number_after total (number_after total number 0) 0 ≡ number
number_back total number l =
    sym (steps_to_is total (number_after total number 0) 0) ∙ ap (λ (k : ℕ). steps_to total k 0) (sym (steps_to_is total number 0)) ∙ steps_back total number l

pub matched_inside : (plant : ℕ) → IsOther plant → (word : List ℕ) → IsMatched (plant ∷ word) → IsMatched word
matched_inside plant bare word m = record {
  equal =
      let a = tally_is OPEN (plant ∷ word) in
      let b = tally_is CLOSE (plant ∷ word) in
      let c = tally_no OPEN plant word bare.not_open in
      let d = tally_no CLOSE plant word bare.not_close in
      let f = tally_is OPEN word in
      let g = tally_is CLOSE word in
      omega (arith, m.equal, a, b, c, d, f, g);
  never_below = λ k.
      let n = m.never_below (suc k) in
      let a = tally_is OPEN (take (suc k) (plant ∷ word)) in
      let b = tally_is CLOSE (take (suc k) (plant ∷ word)) in
      let c = tally_no OPEN plant (take k word) bare.not_open in
      let d = tally_no CLOSE plant (take k word) bare.not_close in
      let f = tally_is OPEN (take k word) in
      let g = tally_is CLOSE (take k word) in
      omega (arith, n, a, b, c, d, f, g);
}

module _ (plant : ℕ) (bare : IsOther plant) where
  pub same_rings : (word one two : List ℕ) (start : ℕ) → IsMatched word → start < length (plant ∷ word) → IsTurned (plant ∷ word) start one → IsTurned (plant ∷ word) start two → one ≡ two
  same_rings word one two start o l s t =
      let b = bracketing_exists plant bare word o in
      one_ring (plant ∷ word) b.0 one two start b.1 (omega arith) s.as_long (λ p m. turned_letters (plant ∷ word) one start p s m) t

  plant_stays : (word ring : List ℕ) (number start : ℕ) → start < length (plant ∷ word) → IsLetterAt plant (plant ∷ word) number start → IsTurned (plant ∷ word) start ring → slice_index ring 0 ≡ plant
  plant_stays word ring number start l h t =
      let e : start + 0 ≡ start = omega arith in
      let f : place_from (plant ∷ word) start 0 ≡ start = ap (λ (k : ℕ). k % length (plant ∷ word)) e ∙ mod_stays start (length (plant ∷ word)) l in
      let g : slice_index (plant ∷ word) (place_from (plant ∷ word) start 0) ≡ plant = ap (slice_index (plant ∷ word)) f ∙ h.here in
      t.letters 0 (omega arith) (λ o. bare.not_open (sym g ∙ o)) (λ o. bare.not_close (sym g ∙ o)) ∙ g

  ring_of_word : (ring : List ℕ) → 0 < length ring → slice_index ring 0 ≡ plant → ring ≡ plant ∷ drop 1 ring
  ring_of_word [] l e = absurd (omega arith)
  ring_of_word (x ∷ xs) l e = ap (λ (y : ℕ). y ∷ xs) e

  letter_of_ring : (word : List ℕ) (start : ℕ) (letters : List ℕ) (p : ℕ) → start < length (plant ∷ word) → slice_index (plant ∷ word) start ≡ plant → ((k : ℕ) → k < length letters → IsTurnedLetter (plant ∷ word) start (suc k) (slice_index letters k)) → p < length (plant ∷ letters) → IsTurnedLetter (plant ∷ word) start p (slice_index (plant ∷ letters) p)
  letter_of_ring word start letters zero l here h m =
      let e : start + 0 ≡ start = omega arith in
      let f : place_from (plant ∷ word) start 0 ≡ start = ap (λ (k : ℕ). k % length (plant ∷ word)) e ∙ mod_stays start (length (plant ∷ word)) l in
      let g : slice_index (plant ∷ word) (place_from (plant ∷ word) start 0) ≡ plant = ap (slice_index (plant ∷ word)) f ∙ here in
      plain_letter (plant ∷ word) start 0 plant (record { not_open = λ o. bare.not_open (sym g ∙ o); not_close = λ o. bare.not_close (sym g ∙ o) }) (sym g)
  letter_of_ring word start letters (suc k) l here h m = h k (omega arith)

  -- a word whose letters are each those that are met from the start on
  pub ring_of_letters : (word : List ℕ) (start : ℕ) (letters : List ℕ) → IsMatched word → start < length (plant ∷ word) → slice_index (plant ∷ word) start ≡ plant → length letters ≡ length word → ((k : ℕ) → k < length letters → IsTurnedLetter (plant ∷ word) start (suc k) (slice_index letters k)) → IsTurned (plant ∷ word) start (plant ∷ letters)
  ring_of_letters word start letters o l here long h =
      let b = bracketing_exists plant bare word o in
      let t = ring_turned (λ ring. Unit {0}) none_stays plant bare word start o tt in
      let same = one_ring (plant ∷ word) b.0 (plant ∷ letters) t.ring start b.1 (omega arith) (ap suc long) (λ p m. letter_of_ring word start letters p l here h (omega (arith, long))) t.turned in
      subst (IsTurned (plant ∷ word) start) (sym same) t.turned

-- the laws, of a plant that is no letter of those past the end
module _ (plant : ℕ) (bare : IsOther plant) (some : 0 < plant) where
  pub planted_unique : (word : List ℕ) (number : ℕ) (one other : List ℕ) → IsMatched word → IsReplantedAt plant word number one → IsReplantedAt plant word number other → one ≡ other
  planted_unique word number one other matched r s =
      let e : r.start ≡ s.start = one_place plant some (plant ∷ word) number r.start s.start r.is_start s.is_start in
      let l = letter_within plant some (plant ∷ word) number s.start s.is_start in
      let P : ℕ → Type 0 = λ k. IsTurned (plant ∷ word) k (plant ∷ one) in
      let same : ◌≡◌ {A = List ℕ} (plant ∷ one) (plant ∷ other) = same_rings plant bare word (plant ∷ one) (plant ∷ other) s.start matched l (subst P e r.is_turned) s.is_turned in
      ap (drop 1) same

  pub planted_exists : (word : List ℕ) (number : ℕ) → IsMatched word → number < count plant (plant ∷ word) → (planted : List ℕ) × IsReplantedAt plant word number planted
  planted_exists word number matched l =
      let start = place_exists plant some (plant ∷ word) number l in
      let h = ring_turned (λ ring. Unit {0}) none_stays plant bare word start.place matched tt in
      let within = letter_within plant some (plant ∷ word) number start.place start.is_letter in
      let e = ring_of_word plant bare h.ring (let a = h.turned.as_long in omega arith) (plant_stays plant bare word h.ring number start.place within start.is_letter h.turned) in
      let P : List ℕ → Type 0 = λ xs. IsTurned (plant ∷ word) start.place xs in (
        drop 1 h.ring,
        record { start = start.place; is_start = start.is_letter; is_turned = subst P e h.turned },
      )

  -- the places are counted from the new plant on
  pub numbers_turned : (word : List ℕ) (planted : ℕ) (turned : List ℕ) → IsMatched word → (r : IsReplantedAt plant word planted turned) → (number place : ℕ) → place < length (plant ∷ word)
      → IsLetterAt plant (plant ∷ word) number (place_from (plant ∷ word) r.start place) → IsLetterAt plant (plant ∷ turned) (number_after (count plant (plant ∷ word)) planted number) place
  numbers_turned word planted turned matched r number place l h =
      let b = bracketing_exists plant bare word matched in
      turned_number plant some bare (plant ∷ word) b.0 (plant ∷ turned) r.start b.1 (letter_within plant some (plant ∷ word) planted r.start r.is_start) r.is_turned planted number place l r.is_start h

  pub planting_undone : (word : List ℕ) (number : ℕ) (planted : List ℕ) → IsMatched word → IsReplantedAt plant word number planted → IsReplantedAt plant planted (number_after (count plant (plant ∷ word)) number 0) word
  planting_undone word number planted matched r =
      let b = bracketing_exists plant bare word matched in
      let l = letter_within plant some (plant ∷ word) number r.start r.is_start in
      let e : 0 ≡ place_from (plant ∷ word) r.start (steps_to (length (plant ∷ word)) r.start 0) = sym (steps_lead (length (plant ∷ word)) r.start 0 (omega arith) (omega arith)) in
      let first = subst (IsLetterAt plant (plant ∷ word) 0) e (plant_is_first plant word 0 refl) in
      record {
        start = steps_to (length (plant ∷ word)) r.start 0;
        is_start = numbers_turned word number planted matched r 0 (steps_to (length (plant ∷ word)) r.start 0) (steps_under (length (plant ∷ word)) r.start 0 (omega arith)) first;
        is_turned = turned_back (plant ∷ word) b.0 (plant ∷ planted) r.start b.1 (omega arith) r.is_turned;
      }

  -- what is planted anew has matched brackets, and each letter as often
  pub planted_matched : (word : List ℕ) (number : ℕ) (planted : List ℕ) → IsMatched word → IsReplantedAt plant word number planted → IsMatched planted
  planted_matched word number planted matched r =
      let h = ring_turned (λ ring. Unit {0}) none_stays plant bare word r.start matched tt in
      let within = letter_within plant some (plant ∷ word) number r.start r.is_start in
      let same : h.ring ≡ plant ∷ planted = same_rings plant bare word h.ring (plant ∷ planted) r.start matched within h.turned r.is_turned in
      matched_inside plant bare planted (matched_from_dyck (plant ∷ planted) (subst IsDyck same h.dyck))

  pub planted_count : (word : List ℕ) (number : ℕ) (planted : List ℕ) (letter : ℕ) → IsMatched word → IsReplantedAt plant word number planted → count letter (plant ∷ planted) ≡ count letter (plant ∷ word)
  planted_count word number planted letter matched r =
      let Tallies : List ℕ → Type 0 = λ ring. (z : ℕ) → tally z ring ≡ tally z (plant ∷ word) in
      let h = ring_turned Tallies (tallies_stay (λ z. tally z (plant ∷ word))) plant bare word r.start matched (λ z. refl) in
      let within = letter_within plant some (plant ∷ word) number r.start r.is_start in
      let same : h.ring ≡ plant ∷ planted = same_rings plant bare word h.ring (plant ∷ planted) r.start matched within h.turned r.is_turned in
      sym (tally_is letter (plant ∷ planted)) ∙ sym (ap (tally letter) same) ∙ h.holds letter ∙ tally_is letter (plant ∷ word)
