-- The highest rise of the count of buds and leaves up to a place: how many buds wait there for a leaf.
use Rattle.std.proofs.Common.{◌≡◌, ◌≢◌, ℕ, zero, suc, ◌+◌, ◌-◌, ◌<◌, ◌≤◌, eqb, List, length, IsTrue, ◌↔◌, refl, sym, ◌∙◌, subst, inl, inr, arith, add-one}
use Rattle.std.specs.Prelude.{slice_index}
use Rattle.std.proofs.lemmas.Bool.{cases_eq, eqb-true}
use Rattle.pm_trees.specs.declared.letters.TheConstants.{LEAF, BUD}
use Rattle.pm_brackets.specs.Word.{count}
use Rattle.pm_trees.specs.Word.{contour}
use Rattle.pm_match.specs.Pair.{IsPair, IsFree, IsBalanced}
use Rattle.pm_match.proofs.Counts.{letter, buds, leaves, letter-first, letter-second, at_bud, at_leaf, at_other, HasSurplus, surplus_from}
use Rattle.pm_match.proofs.Meeting.{IsMeeting, met_after, pair_of_meeting, meeting_of_pair}

-- c is the highest rise from a place up to place i
pub record IsRise (places : List ℕ) (i c : ℕ) : Type 0 where
  pub highest : (k : ℕ) → k ≤ i → buds places i + leaves places k ≤ leaves places i + buds places k + c
  pub foot : ℕ
  pub foot_before : foot ≤ i
  pub reached : buds places i + leaves places foot ≡ leaves places i + buds places foot + c

pub rise_none : (places : List ℕ) → IsRise places 0 0
rise_none places = record { highest = (λ k h. let same : k ≡ 0 = omega arith in subst (λ (i : ℕ). buds places 0 + leaves places i ≤ leaves places 0 + buds places i + 0) (sym same) (omega arith)); foot = 0; foot_before = omega arith; reached = omega arith }

here_is_low : (places : List ℕ) (i k c : ℕ) → k ≡ i → buds places i + leaves places k ≤ leaves places i + buds places k + c
here_is_low places i k c e = subst (λ (m : ℕ). buds places i + leaves places m ≤ leaves places i + buds places m + c) (sym e) (omega arith)

-- one place further, where the rise falls by no more than the counts do
higher : (places : List ℕ) (i c after : ℕ) → buds places (suc i) + leaves places i + c ≤ leaves places (suc i) + buds places i + after → IsRise places i c
    → (k : ℕ) → k ≤ suc i → buds places (suc i) + leaves places k ≤ leaves places (suc i) + buds places k + after
higher places i c after less h k near = elim (cases_eq k (suc i)) [
  | inl same ↦ here_is_low places (suc i) k after same
  | inr ne ↦ omega (arith, h.highest k (omega arith), less)
]

pub rise_bud : (places : List ℕ) (i c : ℕ) → letter places i ≡ BUD → IsRise places i c → IsRise places (suc i) (suc c)
rise_bud places i c e h =
    let step = at_bud places i e in
    let before = h.foot_before in
    record {
      highest = higher places i c (suc c) (omega (arith, step.more_buds, step.more_leaves)) h;
      foot = h.foot;
      foot_before = omega arith;
      reached = omega (arith, h.reached, step.more_buds, step.more_leaves);
    }

pub rise_leaf : (places : List ℕ) (i c : ℕ) → letter places i ≡ LEAF → IsRise places i (suc c) → IsRise places (suc i) c
rise_leaf places i c e h =
    let step = at_leaf places i e in
    let before = h.foot_before in
    record {
      highest = higher places i (suc c) c (omega (arith, step.more_buds, step.more_leaves)) h;
      foot = h.foot;
      foot_before = omega arith;
      reached = omega (arith, h.reached, step.more_buds, step.more_leaves);
    }

-- a leaf that no bud waits for
pub rise_loose : (places : List ℕ) (i : ℕ) → letter places i ≡ LEAF → IsRise places i 0 → IsRise places (suc i) 0
rise_loose places i e h =
    let step = at_leaf places i e in
    record {
      highest = higher places i 0 0 (omega (arith, step.more_buds, step.more_leaves)) h;
      foot = suc i;
      foot_before = omega arith;
      reached = omega arith;
    }

pub rise_other : (places : List ℕ) (i c : ℕ) → i < length places + length places → letter places i ≢ BUD → letter places i ≢ LEAF → IsRise places i c → IsRise places (suc i) c
rise_other places i c i_in no_bud no_leaf h =
    let step = at_other places i i_in no_bud no_leaf in
    let before = h.foot_before in
    record {
      highest = higher places i c c (omega (arith, step.more_buds, step.more_leaves)) h;
      foot = h.foot;
      foot_before = omega arith;
      reached = omega (arith, h.reached, step.more_buds, step.more_leaves);
    }

no_meeting : (places : List ℕ) (r i : ℕ) → IsRise places i 0 → IsMeeting places r i → ⊥
no_meeting places r i h m =
    let step = at_bud places r m.bud in
    let before = m.before in
    omega (arith, h.highest r (omega arith), step.more_buds, step.more_leaves, m.level)

-- a leaf of the second turn that no bud waits for is free
pub free_at : (places : List ℕ) (q : ℕ) → slice_index places q ≡ LEAF → IsRise places (length places + q) 0 → IsFree places q
free_at places q leaf h = record { leaf = leaf; alone = λ p pair. let m = meeting_of_pair places p q pair in no_meeting places m.0 (length places + q) h m.1 }

-- a leaf of the second turn that a bud waits for is in a pair
pub pair_at : (places : List ℕ) (q c : ℕ) → HasSurplus places → q < length places → slice_index places q ≡ LEAF → IsRise places (length places + q) (suc c) → (r : ℕ) × IsPair places r q
pair_at places q c s q_in leaf h =
    let m = met_after places (length places + q) h.foot (letter-second places q ∙ leaf) h.foot_before (omega (arith, h.reached)) in
    pair_of_meeting places m.0 q s m.2 q_in

plant_from : (places : List ℕ) (c : ℕ) → HasSurplus places → 0 < length places → slice_index places 0 ≡ LEAF → IsRise places (length places + 0) c → IsTrue (eqb c 0) ↔ IsBalanced places
plant_from places zero s some leaf h = (λ _. free_at places 0 leaf h, λ _. refl)
plant_from places (suc c) s some leaf h =
    (λ t. absurd (omega (arith, eqb-true (suc c) 0 t)), λ free. let pair = pair_at places 0 c s some leaf h in absurd (free.alone pair.0 pair.1))

-- the plant, the first place of the second turn
pub balanced_from : (letters : List ℕ) (c : ℕ) → count LEAF (contour letters) ≡ count BUD (contour letters) + 2 → IsRise (contour letters) (suc (length letters)) c → IsTrue (eqb c 0) ↔ IsBalanced (contour letters)
balanced_from letters c s h =
    let here : suc (length letters) ≡ length (contour letters) + 0 = omega arith in
    plant_from (contour letters) c (surplus_from (contour letters) s) (omega arith) refl (subst (λ (i : ℕ). IsRise (contour letters) i c) here h)

pub letter-contour : (letters : List ℕ) (k : ℕ) → k < length letters → letter (contour letters) (suc k) ≡ slice_index letters k
letter-contour letters k h = letter-first (contour letters) (suc k) (omega arith)

-- the rise after the plant, and after each letter of a word
pub rise_plant : (letters : List ℕ) → IsRise (contour letters) 1 0
rise_plant letters = rise_loose (contour letters) 0 (letter-first (contour letters) 0 (omega arith)) (rise_none (contour letters))

pub rise_more_bud : (letters : List ℕ) (k c : ℕ) → k < length letters → slice_index letters k ≡ BUD → IsRise (contour letters) (suc k) c → IsRise (contour letters) (suc (suc k)) (suc c)
rise_more_bud letters k c k_in e h = rise_bud (contour letters) (suc k) c (letter-contour letters k k_in ∙ e) h

pub rise_more_leaf : (letters : List ℕ) (k c : ℕ) → k < length letters → slice_index letters k ≡ LEAF → IsRise (contour letters) (suc k) c → IsRise (contour letters) (suc (suc k)) (c - 1)
rise_more_leaf letters k zero k_in e h = rise_loose (contour letters) (suc k) (letter-contour letters k k_in ∙ e) h
rise_more_leaf letters k (suc c) k_in e h =
    let less : c ≡ suc c - 1 = omega arith in
    subst (λ (n : ℕ). IsRise (contour letters) (suc (suc k)) n) less (rise_leaf (contour letters) (suc k) c (letter-contour letters k k_in ∙ e) h)

pub rise_more_other : (letters : List ℕ) (k c : ℕ) → k < length letters → slice_index letters k ≢ BUD → slice_index letters k ≢ LEAF → IsRise (contour letters) (suc k) c → IsRise (contour letters) (suc (suc k)) c
rise_more_other letters k c k_in no_bud no_leaf h =
    let same = letter-contour letters k k_in in
    rise_other (contour letters) (suc k) c (omega arith) (λ e. no_bud (sym same ∙ e)) (λ e. no_leaf (sym same ∙ e)) h

-- the buds that wait after k letters of a word
pub record IsWaiting (letters : List ℕ) (k waiting : ℕ) : Type 0 where
  pub rise : IsRise (contour letters) (suc k) waiting
  pub few : waiting ≤ k

pub waiting_none : (letters : List ℕ) → IsWaiting letters 0 0
waiting_none letters = record { rise = rise_plant letters; few = omega arith }

pub waiting_bud : (letters : List ℕ) (k c : ℕ) → k < length letters → slice_index letters k ≡ BUD → IsWaiting letters k c → IsWaiting letters (k + 1) (c + 1)
waiting_bud letters k c k_in e h =
    let few = h.few in
    rw (add-one, add-one) (record { rise = rise_more_bud letters k c k_in e h.rise; few = omega arith })

pub waiting_leaf : (letters : List ℕ) (k c : ℕ) → k < length letters → slice_index letters k ≡ LEAF → IsWaiting letters k c → IsWaiting letters (k + 1) (c - 1)
waiting_leaf letters k c k_in e h =
    let few = h.few in
    rw (add-one) (record { rise = rise_more_leaf letters k c k_in e h.rise; few = omega arith })

pub waiting_other : (letters : List ℕ) (k c : ℕ) → k < length letters → slice_index letters k ≢ BUD → slice_index letters k ≢ LEAF → IsWaiting letters k c → IsWaiting letters (k + 1) c
waiting_other letters k c k_in no_bud no_leaf h =
    let few = h.few in
    rw (add-one) (record { rise = rise_more_other letters k c k_in no_bud no_leaf h.rise; few = omega arith })
