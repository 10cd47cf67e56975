-- The writing of the pattern of a rank letter by letter, and the reading of its rank.
use Rattle.std.proofs.Common.{◌≡◌, ℕ, zero, suc, ◌+◌, ◌-◌, ◌*◌, ◌^◌, ◌≤◌, ◌<◌, inl, inr, List, [], ◌∷◌, ◌++◌, length, get_or, take, drop, refl, ap, sym, ◌∙◌, subst, arith, append_assoc, take_all, add-one}
use Rattle.std.proofs.Math.ListN.{set, length-set}
use Rattle.std.proofs.Math.Seq.{drop-cons}
use Rattle.std.proofs.lemmas.Bool.{cases_lt}
use Rattle.std.proofs.lemmas.List.{take_more_set}
use Rattle.pm_limits.specs.declared.TheConstants.{MAX_DEGREE}
use Rattle.pm_trees.specs.declared.letters.TheConstants.{BUD}
use Rattle.pm_trees.specs.declared.patterns.TheConstants.{SLOT}
use Rattle.pm_trees.specs.Binomial.{choose}
use Rattle.pm_trees.specs.BudPattern.{IsHalfDegree, IsPattern, HasRank, half_degree}
use Rattle.pm_trees.proofs.Binomials.{choose_none, choose_above, choose_small, pascal}
use Rattle.pm_trees.proofs.Ranking.{IsOf, Head, bud_first, slot_first, head_cases, low, high, side_cases, word_of, word_of_none, word_of_low, word_of_high, number_of, number_of_none, number_of_bud, number_of_slot, number_below, word_of_is, number_of_word}
use Rattle.pm_trees.proofs.Ranked.{of_pattern, pattern_from, rank_from}

-- the letters so far and those that the rest of the rank gives make up the pattern
pub record IsWriting (half rank : ℕ) (out : List ℕ) (i left slots total rest : ℕ) : Type 0 where
  pub halved : IsHalfDegree half
  pub ranked : rank < choose (2 * half - 1) half
  pub as_long : length out ≡ 2 * half - 1
  pub turns : i + left ≡ 2 * half - 1
  pub counted : total ≡ choose left slots
  pub remains : rest < total
  pub spelled : take i out ++ word_of left slots rest ≡ word_of (2 * half - 1) half rank

pub writing_start : (half rank : ℕ) (out : List ℕ) (left total : ℕ) → IsHalfDegree half → rank < choose (2 * half - 1) half → length out ≡ 2 * half - 1 → left ≡ 2 * half - 1 → total ≡ choose (2 * half - 1) half → IsWriting half rank out 0 left half total rank
writing_start half rank out left total h r l e t = record {
  halved = h;
  ranked = r;
  as_long = l;
  turns = omega (arith, e);
  counted = t ∙ ap (λ (n : ℕ). choose n half) (sym e);
  remains = omega (arith, r, t);
  spelled = ap (λ (n : ℕ). word_of n half rank) e;
}

-- what a turn may take for granted
pub record IsTurn (half left slots total : ℕ) : Type 0 where
  pub some : 0 < left
  pub few : left < MAX_DEGREE
  pub within : slots ≤ left
  pub counted : total ≡ choose left slots

pub writing_turn : (half rank : ℕ) (out : List ℕ) (i left slots total rest : ℕ) → i < length out → IsWriting half rank out i left slots total rest → IsTurn half left slots total
writing_turn half rank out i left slots total rest l w = record {
  some = omega (arith, l, w.as_long, w.turns);
  few = omega (arith, w.turns, w.halved.few);
  within = elim (cases_lt left slots) [
    | inl more ↦ absurd (let a = choose_above left slots more in omega (arith, a, w.counted, w.remains))
    | inr g ↦ g
  ];
  counted = w.counted;
}

written : (out : List ℕ) (i x : ℕ) (ws xs : List ℕ) → i < length out → ws ≡ x ∷ xs → take (i + 1) (set out i x) ++ xs ≡ take i out ++ ws
written out i x ws xs l e =
    ap (λ (zs : List ℕ). zs ++ xs) (take_more_set out i x l) ∙ append_assoc (take i out) (x ∷ []) xs ∙ ap (λ (zs : List ℕ). take i out ++ zs) (sym e)

pub writing_bud : (half rank : ℕ) (out out' : List ℕ) (i left slots total rest share left' : ℕ) → i < length out → IsWriting half rank out i left slots total rest → share ≡ choose (left - 1) slots → rest < share → out' ≡ set out i BUD → left' ≡ left - 1 → IsWriting half rank out' (i + 1) left' slots share rest
writing_bud half rank out out' i left slots total rest share left' l w s h e d =
    let f : suc left' ≡ left = omega (arith, l, w.as_long, w.turns, d) in
    let g : share ≡ choose left' slots = s ∙ ap (λ (n : ℕ). choose n slots) (sym d) in
    let ws : word_of left slots rest ≡ BUD ∷ word_of left' slots rest = ap (λ (n : ℕ). word_of n slots rest) (sym f) ∙ word_of_low left' slots rest (omega (arith, g, h)) in
    record {
      halved = w.halved;
      ranked = w.ranked;
      as_long = ap length e ∙ length-set out i BUD ∙ w.as_long;
      turns = omega (arith, f, w.turns);
      counted = g;
      remains = h;
      spelled = ap (λ (o : List ℕ). take (i + 1) o ++ word_of left' slots rest) e ∙ written out i BUD _ _ l ws ∙ w.spelled;
    }

pub writing_slot : (half rank : ℕ) (out out' : List ℕ) (i left slots total rest share left' slots' total' rest' : ℕ) → i < length out → IsWriting half rank out i left slots total rest → share ≡ choose (left - 1) slots → share ≤ rest → out' ≡ set out i SLOT → left' ≡ left - 1 → slots' ≡ slots - 1 → total' ≡ total - share → rest' ≡ rest - share → IsWriting half rank out' (i + 1) left' slots' total' rest'
writing_slot half rank out out' i left slots total rest share left' slots' total' rest' l w s h e d p q r =
    let f : suc left' ≡ left = omega (arith, l, w.as_long, w.turns, d) in
    let g : share ≡ choose left' slots = s ∙ ap (λ (n : ℕ). choose n slots) (sym d) in
    let t : total ≡ choose (suc left') slots = w.counted ∙ ap (λ (n : ℕ). choose n slots) (sym f) in
    elim (side_cases left' slots rest (omega (arith, t, w.remains))) [
      | low less ↦ absurd (omega (arith, less, g, h))
      | high k a b c ↦
          let u : k ≡ slots' = omega (arith, a, p) in
          let v : rest - choose left' slots ≡ rest' = omega (arith, g, r) in
          let ws : word_of left slots rest ≡ SLOT ∷ word_of left' slots' rest' =
          ap (λ (n : ℕ). word_of n slots rest) (sym f) ∙ word_of_high left' slots k rest a b ∙ ap (λ (m : ℕ). SLOT ∷ word_of left' m (rest - choose left' slots)) u ∙ ap (λ (m : ℕ). SLOT ∷ word_of left' slots' m) v in
          let x : choose (suc left') slots ≡ choose left' k + choose left' slots = ap (choose (suc left')) a ∙ pascal left' k ∙ ap (λ (m : ℕ). choose left' k + choose left' m) (sym a) in
          let y = ap (choose left') u in
          record {
            halved = w.halved;
            ranked = w.ranked;
            as_long = ap length e ∙ length-set out i SLOT ∙ w.as_long;
            turns = omega (arith, f, w.turns);
            counted = omega (arith, x, y, t, g, q);
            remains = omega (arith, w.remains, h, q, r);
            spelled = ap (λ (o : List ℕ). take (i + 1) o ++ word_of left' slots' rest') e ∙ written out i SLOT _ _ l ws ∙ w.spelled;
          }
    ]

-- a slot is left where a slot is written
pub writing_has_slot : (half rank : ℕ) (out : List ℕ) (i left slots total rest share : ℕ) → i < length out → IsWriting half rank out i left slots total rest → share ≡ choose (left - 1) slots → share ≤ rest → 0 < slots
writing_has_slot half rank out i left zero total rest share l w s h =
    absurd (let a = choose_none left in let b = choose_none (left - 1) in omega (arith, a, b, s, h, w.counted, w.remains))
writing_has_slot half rank out i left (suc slots) total rest share l w s h = omega arith

append_none : (xs : List ℕ) → xs ++ [] ≡ xs
append_none [] = refl
append_none (x ∷ xs) = ap (λ (ys : List ℕ). x ∷ ys) (append_none xs)

pub writing_end : (half rank : ℕ) (out : List ℕ) (i left slots total rest : ℕ) → i ≡ length out → IsWriting half rank out i left slots total rest → HasRank half out rank
writing_end half rank out i left slots total rest e w =
    let z : left ≡ 0 = omega (arith, e, w.turns, w.as_long) in
    let a : word_of left slots rest ≡ [] = ap (λ (n : ℕ). word_of n slots rest) z ∙ word_of_none slots rest in
    let b : out ≡ word_of (2 * half - 1) half rank =
    sym (append_none out) ∙ ap (λ (xs : List ℕ). xs ++ []) (sym (take_all i out (omega arith))) ∙ ap (λ (xs : List ℕ). take i out ++ xs) (sym a) ∙ w.spelled in
    let n : ℕ = 2 * half - 1 in
    subst (λ (o : List ℕ). HasRank half o rank) (sym b)
    (rank_from half _ rank (pattern_from half _ w.halved.some (word_of_is n half rank w.ranked)) (sym (number_of_word n half rank w.ranked)))

-- the letters that are left to be read, and what they still add to the rank
pub record IsSpelled (word : List ℕ) (i left slots total before : ℕ) : Type 0 where
  pub short : length word < MAX_DEGREE
  pub turns : i + left ≡ length word
  pub counted : total ≡ choose left slots
  pub remains : IsOf left slots (drop i word)
  pub sum : before + number_of (drop i word) ≡ number_of word
  pub small : number_of word < 2 ^ 64

pub spelled_start : (word : List ℕ) (left slots total : ℕ) → IsHalfDegree (half_degree word) → IsPattern (half_degree word) word → left ≡ length word → slots ≡ half_degree word → total ≡ choose (2 * slots - 1) slots → IsSpelled word 0 left slots total 0
spelled_start word left slots total h p l s t =
    let o = of_pattern (half_degree word) word p in
    let a : 2 * half_degree word - 1 ≡ left = omega (arith, o.long, l) in
    let b : 2 * slots - 1 ≡ left = omega (arith, a, s) in
    let d = number_below word _ _ o in
    let f = choose_small (2 * half_degree word - 1) (half_degree word) (omega (arith, h.few)) in
    record {
      short = omega (arith, o.long, h.few);
      turns = omega (arith, l);
      counted = t ∙ ap (λ (n : ℕ). choose n slots) b;
      remains = subst (λ (n : ℕ). IsOf n slots word) a (subst (λ (n : ℕ). IsOf (2 * half_degree word - 1) n word) (sym s) o);
      sum = omega arith;
      small = omega (arith, d, f);
    }

some_below : (left slots : ℕ) (w : List ℕ) → IsOf left slots w → slots ≤ left
some_below left slots w o =
    elim (cases_lt left slots) [
      | inl more ↦ absurd (let a = choose_above left slots more in let b = number_below w left slots o in omega (arith, a, b))
      | inr g ↦ g
    ]

pub spelled_turn : (word : List ℕ) (i left slots total before : ℕ) → i < length word → IsSpelled word i left slots total before → IsTurn left left slots total
spelled_turn word i left slots total before l w = record {
  some = omega (arith, l, w.turns);
  few = omega (arith, w.short, w.turns);
  within = some_below left slots (drop i word) w.remains;
  counted = w.counted;
}

-- the letter that is read, and the rest
pub record IsSpelling (word : List ℕ) (i left slots : ℕ) : Type 0 where
  pub whole : drop i word ≡ get_or word i 0 ∷ drop (i + 1) word
  pub first : Head (get_or word i 0) (drop (i + 1) word) left slots

spelling : (word : List ℕ) (i left slots : ℕ) → i < length word → IsOf (suc left) slots (drop i word) → IsSpelling word i left slots
spelling word i left slots l o =
    let a : drop i word ≡ get_or word i 0 ∷ drop (i + 1) word = drop-cons word i 0 l ∙ ap (λ (k : ℕ). get_or word i 0 ∷ drop k word) (sym (add-one i)) in
    record { whole = a; first = head_cases _ _ left slots (subst (IsOf (suc left) slots) a o) }

pub spelled_bud : (word : List ℕ) (i left slots total before share left' : ℕ) → i < length word → IsSpelled word i left slots total before → share ≡ choose (left - 1) slots → get_or word i 0 ≡ BUD → left' ≡ left - 1 → IsSpelled word (i + 1) left' slots share before
spelled_bud word i left slots total before share left' l w s e d =
    let f : left ≡ suc left' = omega (arith, l, w.turns, d) in
    let p = spelling word i left' slots l (subst (λ (n : ℕ). IsOf n slots (drop i word)) f w.remains) in
    elim p.first [
      | bud_first _ o ↦
          let a = ap number_of p.whole in
          let b = number_of_bud (get_or word i 0) (drop (i + 1) word) e in
          record {
            short = w.short;
            turns = omega (arith, w.turns, f);
            counted = s ∙ ap (λ (n : ℕ). choose n slots) (sym d);
            remains = o;
            sum = omega (arith, a, b, w.sum);
            small = w.small;
          }
      | slot_first t g _ _ ↦ absurd (omega (arith, e, g))
    ]

-- what is known where a slot is read
pub record IsSlotTurn (word : List ℕ) (i left slots total before share left' slots' total' before' : ℕ) : Type 0 where
  pub slots_left : 0 < slots
  pub share_fits : share ≤ total
  pub sum_fits : before + share < 2 ^ 64
  pub next : left' ≡ left - 1 → slots' ≡ slots - 1 → total' ≡ total - share → before' ≡ before + share → IsSpelled word (i + 1) left' slots' total' before'

pub spelled_slot : (word : List ℕ) (i left slots total before share left' slots' total' before' : ℕ) → i < length word → IsSpelled word i left slots total before → share ≡ choose (left - 1) slots → (get_or word i 0 ≡ BUD → ⊥) → IsSlotTurn word i left slots total before share left' slots' total' before'
spelled_slot word i left slots total before share left' slots' total' before' l w s e =
    let m : ℕ = left - 1 in
    let f : left ≡ suc m = omega (arith, l, w.turns) in
    let p = spelling word i m slots l (subst (λ (n : ℕ). IsOf n slots (drop i word)) f w.remains) in
    elim p.first [
      | bud_first g _ ↦ absurd (e g)
      | slot_first t g h o ↦
          let a = ap number_of p.whole in
          let b = number_of_slot (get_or word i 0) (drop (i + 1) word) m slots t g h o in
          let c : choose left slots ≡ choose m t + choose m slots =
          ap (λ (n : ℕ). choose n slots) f ∙ ap (choose (suc m)) h ∙ pascal m t ∙ ap (λ (k : ℕ). choose m t + choose m k) (sym h) in
          record {
            slots_left = omega (arith, h);
            share_fits = omega (arith, c, s, w.counted);
            sum_fits = omega (arith, a, b, s, w.sum, w.small);
            next = λ x y z v.
                let j : t ≡ slots' = omega (arith, h, y) in
                let k : m ≡ left' = omega (arith, x) in
                let q : choose m t ≡ choose left' slots' = ap (choose m) j ∙ ap (λ (n : ℕ). choose n slots') k in
                record {
                  short = w.short;
                  turns = omega (arith, w.turns, f, x);
                  counted = omega (arith, c, s, w.counted, z, q);
                  remains = subst (λ (n : ℕ). IsOf n slots' (drop (i + 1) word)) k (subst (λ (n : ℕ). IsOf m n (drop (i + 1) word)) j o);
                  sum = omega (arith, a, b, s, w.sum, v);
                  small = w.small;
                };
          }
    ]

no_number : (w : List ℕ) → length w ≡ 0 → number_of w ≡ 0
no_number [] e = number_of_none
no_number (x ∷ xs) e = absurd (omega (arith, e))

pub spelled_end : (word : List ℕ) (i left slots total before : ℕ) → i ≡ length word → IsPattern (half_degree word) word → IsSpelled word i left slots total before → HasRank (half_degree word) word before
spelled_end word i left slots total before e p w =
    let z : left ≡ 0 = omega (arith, e, w.turns) in
    let a = no_number (drop i word) (w.remains.long ∙ z) in
    rank_from (half_degree word) word before p (omega (arith, a, w.sum))

pub writing_same : (half rank : ℕ) (out : List ℕ) (i left slots total rest slots' total' rest' : ℕ) → slots' ≡ slots → total' ≡ total → rest' ≡ rest → IsWriting half rank out i left slots total rest → IsWriting half rank out i left slots' total' rest'
writing_same half rank out i left slots total rest slots' total' rest' e f g w =
    subst (λ (n : ℕ). IsWriting half rank out i left n total' rest') (sym e)
    (subst (λ (n : ℕ). IsWriting half rank out i left slots n rest') (sym f)
    (subst (λ (n : ℕ). IsWriting half rank out i left slots total n) (sym g) w))

pub spelled_same : (word : List ℕ) (i left slots total before slots' total' before' : ℕ) → slots' ≡ slots → total' ≡ total → before' ≡ before → IsSpelled word i left slots total before → IsSpelled word i left slots' total' before'
spelled_same word i left slots total before slots' total' before' e f g w =
    subst (λ (n : ℕ). IsSpelled word i left n total' before') (sym e)
    (subst (λ (n : ℕ). IsSpelled word i left slots n before') (sym f)
    (subst (λ (n : ℕ). IsSpelled word i left slots total n) (sym g) w))
