-- A word planted anew at one of two marked places, and its old plant, tell the word and the place; and each place of the plant's
-- letter is the old plant of a word that is.
use Rattle.std.proofs.Common.{◌≡◌, ℕ, ◌+◌, ◌%◌, ◌<◌, List, ◌∷◌, inl, inr, length, take, refl, sym, ◌∙◌, ap, subst, arith}
use Rattle.std.proofs.lemmas.Bool.{cases_eq}
use Rattle.pm_brackets.specs.Word.{IsLetterAt, IsMatched, IsOther, count}
use Rattle.pm_brackets.specs.PlantedAt.{AreTwo, AreTwoMarks, IsChosen, IsPlantedAt, first, second}
use Rattle.pm_brackets.specs.Ring.{IsReplantedAt, number_after, place_from}
use Rattle.pm_brackets.proofs.LetterCounts.{plant_is_first}
use Rattle.pm_brackets.proofs.LetterTurns.{letter_few, letter_within, one_place}
use Rattle.pm_brackets.proofs.Replants.{number_back, numbers_turned, planted_matched, planted_count, planted_unique, planting_undone}
use Rattle.pm_brackets.proofs.RingPlaces.{mod_stays, steps_are, steps_lead, steps_to, steps_under}

pub chosen_is : (chosen : ℕ → Type 0) (number place : ℕ) → IsChosen chosen number place → chosen place
chosen_is chosen _ place (first _ is least) = is
chosen_is chosen _ place (second _ other is that after) = is

-- a place has one number among the chosen ones
pub one_number : (chosen : ℕ → Type 0) (a b p q : ℕ) → p ≡ q → IsChosen chosen a p → IsChosen chosen b q → a ≡ b
one_number chosen _ _ p q e (first _ p_free p_least) (first _ q_free q_least) = refl
one_number chosen _ _ p q e (first _ p_free p_least) (second _ r q_free r_free after) = absurd (let below = p_least r r_free in omega arith)
one_number chosen _ _ p q e (second _ o p_free o_free before) (first _ q_free q_least) = absurd (let below = q_least o o_free in omega arith)
one_number chosen _ _ p q e (second _ o p_free o_free before) (second _ r q_free r_free after) = refl

-- of two chosen places each has its number, and each number its place
module _ (chosen : ℕ → Type 0) (two : AreTwo chosen) where
  pub earlier_chosen : IsChosen chosen 0 two.earlier
  earlier_chosen = first two.earlier two.earlier_is (λ other is. elim (two.no_third other is) [ inl e ↦ omega (arith, e) | inr e ↦ (let order = two.in_order in omega (arith, e)) ])

  pub later_chosen : IsChosen chosen 1 two.later
  later_chosen = second two.later two.earlier two.later_is two.earlier_is two.in_order

  is_later : (place other : ℕ) → chosen place → chosen other → other < place → place ≡ two.later
  is_later place other is that after = elim (two.no_third place is) [
    | inl e ↦ absurd (
        let order = two.in_order in
        elim (two.no_third other that) [ inl f ↦ omega (arith, e, f) | inr f ↦ omega (arith, e, f) ]
        )
    | inr e ↦ e
  ]

  pub one_chosen : (a b p q : ℕ) → a ≡ b → IsChosen chosen a p → IsChosen chosen b q → p ≡ q
  one_chosen _ _ p q e (first _ p_is p_least) (first _ q_is q_least) = let below = p_least q q_is in let above = q_least p p_is in omega arith
  one_chosen _ _ p q e (first _ p_is p_least) (second _ r q_is r_is after) = absurd (omega arith)
  one_chosen _ _ p q e (second _ o p_is o_is before) (first _ q_is q_least) = absurd (omega arith)
  one_chosen _ _ p q e (second _ o p_is o_is before) (second _ r q_is r_is after) = is_later p o p_is o_is before ∙ sym (is_later q r q_is r_is after)

  pub chosen_exists : (number : ℕ) → number < 2 → (place : ℕ) × IsChosen chosen number place
  chosen_exists number low = elim (cases_eq number 0) [
    | inl none ↦ (two.earlier, subst (λ (n : ℕ). IsChosen chosen n two.earlier) (sym none) earlier_chosen)
    | inr some ↦ (two.later, let one : 1 ≡ number = omega arith in subst (λ (n : ℕ). IsChosen chosen n two.later) one later_chosen)
  ]

-- the number of a chosen place
pub record IsNumbered (chosen : ℕ → Type 0) (place : ℕ) : Type 0 where
  pub number : ℕ
  pub low : number < 2
  pub is : IsChosen chosen number place

pub has_number : (chosen : ℕ → Type 0) → AreTwo chosen → (place : ℕ) → chosen place → IsNumbered chosen place
has_number chosen two place is = elim (two.no_third place is) [
  | inl e ↦ record { number = 0; low = omega arith; is = subst (IsChosen chosen 0) (sym e) (earlier_chosen chosen two) }
  | inr e ↦ record { number = 1; low = omega arith; is = subst (IsChosen chosen 1) (sym e) (later_chosen chosen two) }
]

module _ (plant : ℕ) (bare : IsOther plant) (some : 0 < plant) where
  -- the plant of a word that is planted anew at a mark is marked
  pub plant_is_marked : (IsTree : List ℕ → Type 0) (marked : List ℕ → ℕ → Type 0) → AreTwoMarks plant IsTree marked → (word : List ℕ) (number place : ℕ) (turned : List ℕ) → IsTree word → marked (plant ∷ word) place
      → IsLetterAt plant (plant ∷ word) number place → IsReplantedAt plant word number turned → marked (plant ∷ turned) 0
  plant_is_marked IsTree marked marks word number place turned tree is numbered r =
      let start_in : r.start < length (plant ∷ word) = letter_within plant some (plant ∷ word) number r.start r.is_start in
      let home : r.start + 0 ≡ r.start = omega arith in
      let here : place_from (plant ∷ word) r.start 0 ≡ place =
      ap (λ (k : ℕ). k % length (plant ∷ word)) home ∙ mod_stays r.start (length (plant ∷ word)) start_in ∙ one_place plant some (plant ∷ word) number r.start place r.is_start numbered in
      (marks.turned word number turned tree r 0 (omega arith)).1 (subst (marked (plant ∷ word)) (sym here) is)

  same_start : (chosen : List ℕ → ℕ → Type 0) (word : List ℕ) (number : ℕ) (one other : List ℕ) (a b : ℕ) → AreTwo (chosen (plant ∷ word)) → (x : IsPlantedAt plant chosen word number one a)
      → (y : IsPlantedAt plant chosen word number other b) → y.start_number ≡ x.start_number
  same_start chosen word number one other a b two x y =
      let places : y.place ≡ x.place = one_chosen (chosen (plant ∷ word)) two number number y.place x.place refl y.is_chosen x.is_chosen in
      sym y.numbered.before ∙ ap (λ (k : ℕ). count plant (take k (plant ∷ word))) places ∙ x.numbered.before

  now_is : (chosen : List ℕ → ℕ → Type 0) (word : List ℕ) (number : ℕ) (turned : List ℕ) (old : ℕ) → (x : IsPlantedAt plant chosen word number turned old) → x.now ≡ steps_to (length (plant ∷ word)) x.is_replanted.start 0
  now_is chosen word number turned old x =
      let long = x.is_replanted.is_turned.as_long in
      let within = x.within in
      let start_in = letter_within plant some (plant ∷ word) x.start_number x.is_replanted.start x.is_replanted.is_start in
      sym (steps_are (length (plant ∷ word)) x.is_replanted.start x.now (omega arith) (omega arith)) ∙ ap (steps_to (length (plant ∷ word)) x.is_replanted.start) x.is_old_plant

  -- a word is planted anew in one way
  pub one_anew : (chosen : List ℕ → ℕ → Type 0) (word : List ℕ) (number : ℕ) (one other : List ℕ) (a b : ℕ) → IsMatched word → AreTwo (chosen (plant ∷ word)) → IsPlantedAt plant chosen word number one a
      → IsPlantedAt plant chosen word number other b → (other ≡ one) × (b ≡ a)
  one_anew chosen word number one other a b matched two x y =
      let starts_same : y.start_number ≡ x.start_number = same_start chosen word number one other a b two x y in
      let there : IsReplantedAt plant word x.start_number other = subst (λ (k : ℕ). IsReplantedAt plant word k other) starts_same y.is_replanted in
      let words : other ≡ one = planted_unique plant bare some word x.start_number other one matched there x.is_replanted in
      let starts : y.is_replanted.start ≡ x.is_replanted.start =
      one_place plant some (plant ∷ word) x.start_number y.is_replanted.start x.is_replanted.start (subst (λ (k : ℕ). IsLetterAt plant (plant ∷ word) k y.is_replanted.start) starts_same y.is_replanted.is_start) x.is_replanted.is_start in
      let x_now : x.now ≡ steps_to (length (plant ∷ word)) x.is_replanted.start 0 = now_is chosen word number one a x in
      let y_now : y.now ≡ steps_to (length (plant ∷ word)) y.is_replanted.start 0 = now_is chosen word number other b y in
      let nows : y.now ≡ x.now = y_now ∙ ap (λ (s : ℕ). steps_to (length (plant ∷ word)) s 0) starts ∙ sym x_now in
      (words, sym y.is_old_number.before ∙ ap (λ (k : ℕ). count plant (take k (plant ∷ other))) nows ∙ ap (λ (w : List ℕ). count plant (take x.now (plant ∷ w))) words ∙ x.is_old_number.before)

  -- the number of the old plant leads back to the word as it was planted
  old_plant_is : (chosen : List ℕ → ℕ → Type 0) (word : List ℕ) (number : ℕ) (turned : List ℕ) (old : ℕ) → IsMatched word → (x : IsPlantedAt plant chosen word number turned old)
      → old ≡ number_after (count plant (plant ∷ word)) x.start_number 0
  old_plant_is chosen word number turned old matched x =
      let within : x.now < length (plant ∷ word) = (let long = x.is_replanted.is_turned.as_long in let l = x.within in omega arith) in
      let home : IsLetterAt plant (plant ∷ word) 0 (place_from (plant ∷ word) x.is_replanted.start x.now) = subst (IsLetterAt plant (plant ∷ word) 0) (sym x.is_old_plant) (plant_is_first plant word 0 refl) in
      sym x.is_old_number.before ∙ (numbers_turned plant bare some word x.start_number turned matched x.is_replanted 0 x.now within home).before

  planted_back : (chosen : List ℕ → ℕ → Type 0) (word : List ℕ) (number : ℕ) (turned : List ℕ) (old : ℕ) → IsMatched word → IsPlantedAt plant chosen word number turned old → IsReplantedAt plant turned old word
  planted_back chosen word number turned old matched x =
      subst (λ (k : ℕ). IsReplantedAt plant turned k word) (sym (old_plant_is chosen word number turned old matched x)) (planting_undone plant bare some word x.start_number turned matched x.is_replanted)

  -- and to the number of the place
  start_is : (chosen : List ℕ → ℕ → Type 0) (word : List ℕ) (number : ℕ) (turned : List ℕ) (old : ℕ) → IsMatched word → (x : IsPlantedAt plant chosen word number turned old)
      → x.start_number ≡ number_after (count plant (plant ∷ word)) old 0
  start_is chosen word number turned old matched x =
      sym (number_back (count plant (plant ∷ word)) x.start_number (letter_few plant some (plant ∷ word) x.start_number x.place x.numbered))
      ∙ ap (λ (k : ℕ). number_after (count plant (plant ∷ word)) k 0) (sym (old_plant_is chosen word number turned old matched x))

  -- so the word planted anew, and the number of its old plant, tell the word and its chosen place
  one_start : (chosen : List ℕ → ℕ → Type 0) (word : List ℕ) (b c : ℕ) (turned other : List ℕ) (old : ℕ) → IsMatched word → IsPlantedAt plant chosen word b turned old → IsPlantedAt plant chosen word c other old → b ≡ c
  one_start chosen word b c turned other old matched x y =
      let same : x.start_number ≡ y.start_number = start_is chosen word b turned old matched x ∙ sym (start_is chosen word c other old matched y) in
      one_number (chosen (plant ∷ word)) b c x.place y.place
      (one_place plant some (plant ∷ word) y.start_number x.place y.place (subst (λ (k : ℕ). IsLetterAt plant (plant ∷ word) k x.place) same x.numbered) y.numbered) x.is_chosen y.is_chosen

  pub planted_anew_once : (chosen : List ℕ → ℕ → Type 0) (word other : List ℕ) (b c : ℕ) (turned : List ℕ) (old : ℕ) → IsMatched word → IsMatched other → IsPlantedAt plant chosen word b turned old
      → IsPlantedAt plant chosen other c turned old → (word ≡ other) × (b ≡ c)
  planted_anew_once chosen word other b c turned old matched other_matched x y =
      let same : word ≡ other = planted_unique plant bare some turned old word other (planted_matched plant bare some word x.start_number turned matched x.is_replanted)
      (planted_back chosen word b turned old matched x) (planted_back chosen other c turned old other_matched y) in
      (same, one_start chosen word b c turned turned old matched x (subst (λ (w : List ℕ). IsPlantedAt plant chosen w c turned old) (sym same) y))

  -- the old plant of a word that is planted at a chosen place has the number that planting gives to number 0
  pub anew_from : (chosen : List ℕ → ℕ → Type 0) (word : List ℕ) (number start_number place : ℕ) (turned : List ℕ) → IsMatched word → IsChosen (chosen (plant ∷ word)) number place
      → IsLetterAt plant (plant ∷ word) start_number place → IsReplantedAt plant word start_number turned → IsPlantedAt plant chosen word number turned (number_after (count plant (plant ∷ word)) start_number 0)
  anew_from chosen word number start_number place turned matched is numbered r =
      let start_in : r.start < length (plant ∷ word) = letter_within plant some (plant ∷ word) start_number r.start r.is_start in
      let now_in : steps_to (length (plant ∷ word)) r.start 0 < length (plant ∷ word) = steps_under (length (plant ∷ word)) r.start 0 (omega arith) in
      let home : place_from (plant ∷ word) r.start (steps_to (length (plant ∷ word)) r.start 0) ≡ 0 = steps_lead (length (plant ∷ word)) r.start 0 (omega arith) (omega arith) in
      record {
        place = place;
        is_chosen = is;
        start_number = start_number;
        numbered = numbered;
        is_replanted = r;
        now = steps_to (length (plant ∷ word)) r.start 0;
        within = (let long = r.is_turned.as_long in omega arith);
        is_old_plant = home;
        is_old_number = numbers_turned plant bare some word start_number turned matched r 0 (steps_to (length (plant ∷ word)) r.start 0) now_in
            (subst (IsLetterAt plant (plant ∷ word) 0) (sym home) (plant_is_first plant word 0 refl));
      }

  -- a word replanted at one of its places, planted anew at a chosen place that is its plant from before, is as it was
  pub anew_back : (chosen : List ℕ → ℕ → Type 0) (turned : List ℕ) (old : ℕ) (word : List ℕ) (number place : ℕ) → IsMatched turned → old < count plant (plant ∷ turned) → IsReplantedAt plant turned old word
      → IsLetterAt plant (plant ∷ word) (number_after (count plant (plant ∷ turned)) old 0) place → IsChosen (chosen (plant ∷ word)) number place → IsPlantedAt plant chosen word number turned old
  anew_back chosen turned old word number place matched few r numbered is =
      let word_matched : IsMatched word = planted_matched plant bare some turned old word matched r in
      let total : count plant (plant ∷ word) ≡ count plant (plant ∷ turned) = planted_count plant bare some turned old word plant matched r in
      let back : number_after (count plant (plant ∷ word)) (number_after (count plant (plant ∷ turned)) old 0) 0 ≡ old =
      ap (λ (k : ℕ). number_after k (number_after (count plant (plant ∷ turned)) old 0) 0) total ∙ number_back (count plant (plant ∷ turned)) old few in
      subst (IsPlantedAt plant chosen word number turned) back
      (anew_from chosen word number (number_after (count plant (plant ∷ turned)) old 0) place turned word_matched is numbered (planting_undone plant bare some turned old word matched r))
