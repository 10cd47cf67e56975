-- A word read backwards from the plant: the first bud for which no leaf after it is left meets the plant.
use Rattle.std.proofs.Common.{◌≡◌, ◌≢◌, ℕ, suc, ◌+◌, ◌-◌, ◌<◌, ◌≤◌, List, length, refl, sym, ap, ◌∙◌, subst, inl, inr, arith}
use Rattle.std.specs.Prelude.{slice_index}
use Rattle.std.proofs.lemmas.Bool.{cases_eq}
use Rattle.pm_trees.specs.declared.letters.TheConstants.{LEAF, BUD}
use Rattle.pm_brackets.specs.Word.{count}
use Rattle.pm_trees.specs.Word.{contour}
use Rattle.pm_match.specs.Pair.{IsPair, IsBalanced}
use Rattle.pm_match.proofs.Counts.{letter, buds, leaves, letter-first, letter-second, IsStep, at_bud, at_leaf, at_other, surplus_from}
use Rattle.pm_match.proofs.Meeting.{IsMeeting, pair_second, meeting_of_pair, IsHighFrom, rise_meets}
use Rattle.pm_match.proofs.Rise.{letter-contour}

-- The state before the places up to place i are read backwards from place n, which has a leaf: so many leaves are left.
pub record IsBackwards (places : List ℕ) (n i left : ℕ) : Type 0 where
  pub inside : i ≤ n
  pub high : IsHighFrom places n i
  pub level : buds places i + leaves places n ≡ leaves places i + buds places n + left

high_more : (places : List ℕ) (n d left : ℕ) → buds places d + leaves places n ≡ leaves places d + buds places n + left → IsHighFrom places n (suc d) → IsHighFrom places n d
high_more places n d left e h = record {
  high = λ m low near. elim (cases_eq m d) [
    | inl same ↦ subst (λ (i : ℕ). leaves places i + buds places n ≤ buds places i + leaves places n) (sym same) (omega arith)
    | inr ne ↦ h.high m (omega arith) near
  ];
}

back_step : (places : List ℕ) (n d b l left less : ℕ) → IsStep places d b l → l + left ≡ b + less → IsBackwards places n (suc d) left → IsBackwards places n d less
back_step places n d b l left less step e h =
    let inside = h.inside in
    let level : buds places d + leaves places n ≡ leaves places d + buds places n + less = omega (arith, h.level, step.more_buds, step.more_leaves) in
    record { inside = omega arith; high = high_more places n d less level h.high; level = level }

-- the state after the letters from the k-th on are read backwards
abbrev pub IsReadBack : List ℕ → ℕ → ℕ → Type 0
IsReadBack letters k left = IsBackwards (contour letters) (suc (length letters)) (suc k) left

pub back_none : (letters : List ℕ) → IsReadBack letters (length letters) 0
back_none letters = record {
  inside = omega arith;
  high = record {
    high = λ m low near. let same : m ≡ suc (length letters) = omega arith in
        subst (λ (i : ℕ). leaves (contour letters) i + buds (contour letters) (suc (length letters)) ≤ buds (contour letters) i + leaves (contour letters) (suc (length letters))) (sym same) (omega arith);
  };
  level = omega arith;
}

pub back_leaf : (letters : List ℕ) (k left : ℕ) → k < length letters → slice_index letters k ≡ LEAF → IsReadBack letters (suc k) left → IsReadBack letters k (left + 1)
back_leaf letters k left k_in e h =
    back_step (contour letters) _ (suc k) 0 1 left (left + 1) (at_leaf (contour letters) (suc k) (letter-contour letters k k_in ∙ e)) (omega arith) h

pub back_bud : (letters : List ℕ) (k left : ℕ) → k < length letters → slice_index letters k ≡ BUD → 0 < left → IsReadBack letters (suc k) left → IsReadBack letters k (left - 1)
back_bud letters k left k_in e some h =
    back_step (contour letters) _ (suc k) 1 0 left (left - 1) (at_bud (contour letters) (suc k) (letter-contour letters k k_in ∙ e)) (omega arith) h

pub back_other : (letters : List ℕ) (k left : ℕ) → k < length letters → slice_index letters k ≢ BUD → slice_index letters k ≢ LEAF → IsReadBack letters (suc k) left → IsReadBack letters k left
back_other letters k left k_in no_bud no_leaf h =
    let same = letter-contour letters k k_in in
    back_step (contour letters) _ (suc k) 0 0 left left (at_other (contour letters) (suc k) (omega arith) (λ e. no_bud (sym same ∙ e)) (λ e. no_leaf (sym same ∙ e))) (omega arith) h

-- the plant in the second turn
plant_again : (letters : List ℕ) → letter (contour letters) (suc (length letters)) ≡ LEAF
plant_again letters =
    let here : suc (length letters) ≡ length (contour letters) + 0 = omega arith in
    ap (λ i. letter (contour letters) i) here ∙ letter-second (contour letters) 0

-- a bud for which no leaf is left meets the plant
pub back_meets : (letters : List ℕ) (k left : ℕ) → count LEAF (contour letters) ≡ count BUD (contour letters) + 2 → k < length letters → slice_index letters k ≡ BUD → left ≡ 0 → IsReadBack letters (suc k) left → IsPair (contour letters) (suc k) 0
back_meets letters k left s k_in e none h =
    let places = contour letters in
    let bud : letter places (suc k) ≡ BUD = letter-contour letters k k_in ∙ e in
    let step = at_bud places (suc k) bud in
    let meeting = rise_meets places (suc (length letters)) (suc k) (plant_again letters) (omega arith) (omega (arith, h.level, step.more_buds, step.more_leaves)) h.high in
    let here : suc (length letters) ≡ length places + 0 = omega arith in
    pair_second places (suc k) 0 (surplus_from places s) (subst (λ (i : ℕ). IsMeeting places (suc k) i) here meeting) (omega arith) (omega arith)

-- where no such bud comes, the plant is free
pub back_free : (letters : List ℕ) (left : ℕ) → IsReadBack letters 0 left → IsBalanced (contour letters)
back_free letters left h = record {
  leaf = refl;
  alone = λ p pair.
      let places = contour letters in
      let m = meeting_of_pair places p 0 pair in
      let here : length places + 0 ≡ suc (length letters) = omega arith in
      let meeting = subst (λ (i : ℕ). IsMeeting places m.0 i) here m.1 in
      let step = at_bud places m.0 meeting.bud in
      let before = meeting.before in
      elim (cases_eq m.0 0) [
        | inl e ↦ absurd (omega (arith, sym (letter-first places 0 (omega arith)) ∙ ap (λ i. letter places i) (sym e) ∙ meeting.bud))
        | inr ne ↦ absurd (omega (arith, h.high.high m.0 (omega arith) (omega arith), meeting.level, step.more_buds, step.more_leaves))
      ];
}
