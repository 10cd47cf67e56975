-- Pairs as meetings along two turns: a bud meets the first leaf at which the count of buds and leaves after it is even.
use Rattle.std.proofs.Common.{◌≡◌, ℕ, zero, suc, ◌+◌, ◌-◌, ◌%◌, ◌<◌, ◌≤◌, List, length, refl, sym, ap, ◌∙◌, subst, ◌⊎◌, inl, inr, arith}
use Rattle.std.specs.Prelude.{slice_index}
use Rattle.std.proofs.lemmas.Bool.{cases_lt, cases_eq, cases_order}
use Rattle.std.proofs.Math.Nat.{mod-eq_of_lt, add-mod_left}
use Rattle.pm_trees.specs.declared.letters.TheConstants.{LEAF, BUD}
use Rattle.pm_match.specs.Pair.{IsPair}
use Rattle.pm_match.proofs.Counts.{letter, buds, leaves, letter-first, letter-second, bud_within, leaf_within, leaf_in_turns, at_bud, at_leaf, at_other, second, stretched, HasSurplus}

-- the bud at p meets the leaf at j
pub record IsMeeting (places : List ℕ) (p j : ℕ) : Type 0 where
  pub bud : letter places p ≡ BUD
  pub leaf : letter places j ≡ LEAF
  pub before : p < j
  pub level : buds places j + leaves places (suc p) ≡ leaves places j + buds places (suc p)
  pub above : (k : ℕ) → suc p ≤ k → k ≤ j → leaves places k + buds places (suc p) ≤ buds places k + leaves places (suc p)

-- a bud meets one leaf at most
later_is_none : (places : List ℕ) (p j i : ℕ) → IsMeeting places p j → IsMeeting places p i → j < i → ⊥
later_is_none places p j i h g later =
    let step = at_leaf places j h.leaf in
    let before = h.before in
    let high = g.above (suc j) (omega arith) (omega arith) in
    omega (arith, step.more_buds, step.more_leaves, h.level)

pub meeting_unique : (places : List ℕ) (p j i : ℕ) → IsMeeting places p j → IsMeeting places p i → j ≡ i
meeting_unique places p j i h g = elim (cases_order j i) [
  | inl e ↦ e
  | inr o ↦ elim o [ inl l ↦ absurd (later_is_none places p j i h g l) | inr l ↦ absurd (later_is_none places p i j g h l) ]
]

-- within a turn
pub meeting_within : (places : List ℕ) (p j : ℕ) → HasSurplus places → IsMeeting places p j → p < length places → j < length places + p
meeting_within places p j s h p_in = elim (cases_lt j (length places + p)) [
  | inl l ↦ l
  | inr far ↦
      let step = at_bud places p h.bud in
      let turn = second places p (omega arith) in
      let positive : suc p ≤ length places + p = omega arith in
      let high = h.above (length places + p) positive far in
      absurd (omega (arith, s.surplus, step.more_buds, step.more_leaves, turn.second_buds, turn.second_leaves, high))
]

pair_from : (places : List ℕ) (p q apart : ℕ) → IsMeeting places p (suc p + apart) → p < length places → suc apart < length places → slice_index places q ≡ LEAF → (suc p + apart) % length places ≡ q → IsPair places p q
pair_from places p q apart h p_in near leaf at = record {
  bud = sym (letter-first places p p_in) ∙ h.bud;
  leaf = leaf;
  apart = apart;
  in_turn = near;
  meets = at;
  equal = (let all = stretched places p apart in omega (arith, h.level, all.in_buds, all.in_leaves));
  never_below = (λ k few. let part = stretched places p k in
      let high = h.above (suc p + k) (omega arith) (omega arith) in
      omega (arith, part.in_buds, part.in_leaves, high));
}

-- a meeting within the first turn
pub pair_first : (places : List ℕ) (p j : ℕ) → IsMeeting places p j → j < length places → IsPair places p j
pair_first places p j h j_in =
    let before = h.before in
    let far : suc p + (j - suc p) ≡ j = omega arith in
    let there : IsMeeting places p (suc p + (j - suc p)) = subst (λ (i : ℕ). IsMeeting places p i) (sym far) h in
    pair_from places p j (j - suc p) there (omega arith) (omega arith) (sym (letter-first places j j_in) ∙ h.leaf) (ap (λ i. i % length places) far ∙ mod-eq_of_lt j_in)

-- a meeting of a bud of the first turn with a leaf of the second
pub pair_second : (places : List ℕ) (p q : ℕ) → HasSurplus places → IsMeeting places p (length places + q) → p < length places → q < length places → IsPair places p q
pair_second places p q s h p_in q_in =
    let near = meeting_within places p (length places + q) s h p_in in
    let far : suc p + (length places + q - suc p) ≡ length places + q = omega arith in
    let there : IsMeeting places p (suc p + (length places + q - suc p)) = subst (λ (i : ℕ). IsMeeting places p i) (sym far) h in
    pair_from places p q (length places + q - suc p) there p_in (omega arith) (sym (letter-second places q) ∙ h.leaf)
    (ap (λ i. i % length places) far ∙ add-mod_left (length places) q ∙ mod-eq_of_lt q_in)

-- place k of the two turns is place m of the second
pub record IsTurned (places : List ℕ) (k m : ℕ) : Type 0 where
  pub turned_buds : buds places k ≡ buds places (length places) + buds places m
  pub turned_leaves : leaves places k ≡ leaves places (length places) + leaves places m

pub turned : (places : List ℕ) (k m : ℕ) → k ≡ length places + m → m ≤ length places → IsTurned places k m
turned places k m e m_in =
    let turn = second places m m_in in
    record { turned_buds = ap (λ i. buds places i) e ∙ turn.second_buds; turned_leaves = ap (λ i. leaves places i) e ∙ turn.second_leaves }

-- a turn on, or back
pub meeting_up : (places : List ℕ) (p j : ℕ) → IsMeeting places p j → j < length places → IsMeeting places (length places + p) (length places + j)
meeting_up places p j h j_in =
    let before = h.before in
    let at_p = turned places (suc (length places + p)) (suc p) (omega arith) (omega arith) in
    let at_j = turned places (length places + j) j refl (omega arith) in
    record {
      bud = letter-second places p ∙ sym (letter-first places p (omega arith)) ∙ h.bud;
      leaf = letter-second places j ∙ sym (letter-first places j j_in) ∙ h.leaf;
      before = omega arith;
      level = omega (arith, h.level, at_p.turned_buds, at_p.turned_leaves, at_j.turned_buds, at_j.turned_leaves);
      above = (λ k low high. let at_k = turned places k (k - length places) (omega arith) (omega arith) in
          let below = h.above (k - length places) (omega arith) (omega arith) in
          omega (arith, below, at_p.turned_buds, at_p.turned_leaves, at_k.turned_buds, at_k.turned_leaves));
    }

pub meeting_down : (places : List ℕ) (p j : ℕ) → IsMeeting places (length places + p) (length places + j) → j < length places → IsMeeting places p j
meeting_down places p j h j_in =
    let before : p < j = omega (arith, h.before) in
    let at_p = turned places (suc (length places + p)) (suc p) (omega arith) (omega arith) in
    let at_j = turned places (length places + j) j refl (omega arith) in
    record {
      bud = letter-first places p (omega arith) ∙ sym (letter-second places p) ∙ h.bud;
      leaf = letter-first places j j_in ∙ sym (letter-second places j) ∙ h.leaf;
      before = before;
      level = omega (arith, h.level, at_p.turned_buds, at_p.turned_leaves, at_j.turned_buds, at_j.turned_leaves);
      above = (λ k low high. let at_k = turned places (length places + k) k refl (omega arith) in
          let below = h.above (length places + k) (omega arith) (omega arith) in
          omega (arith, below, at_p.turned_buds, at_p.turned_leaves, at_k.turned_buds, at_k.turned_leaves));
    }

-- a leaf of the second turn that a bud meets is in a pair
pub pair_of_meeting : (places : List ℕ) (p q : ℕ) → HasSurplus places → IsMeeting places p (length places + q) → q < length places → (r : ℕ) × IsPair places r q
pair_of_meeting places p q s h q_in = elim (cases_lt p (length places)) [
  | inl p_in ↦ (p, pair_second places p q s h p_in q_in)
  | inr far ↦
      let back : length places + (p - length places) ≡ p = omega arith in
      let there : IsMeeting places (length places + (p - length places)) (length places + q) = subst (λ (i : ℕ). IsMeeting places i (length places + q)) (sym back) h in
      (p - length places, pair_first places (p - length places) q (meeting_down places (p - length places) q there q_in) q_in)
]

-- the other place of a pair, in two turns
record IsEnd (places : List ℕ) (j q : ℕ) : Type 0 where
  leaf : letter places j ≡ LEAF
  case : (j ≡ q) ⊎ (j ≡ length places + q)

end_of : (places : List ℕ) (j q : ℕ) → 0 < length places → j < length places + length places → j % length places ≡ q → slice_index places q ≡ LEAF → IsEnd places j q
end_of places j q some j_in at leaf = elim (cases_lt j (length places)) [
  | inl h ↦ let same : j ≡ q = sym (mod-eq_of_lt h) ∙ at in
      record { leaf = letter-first places j h ∙ ap (λ i. slice_index places i) same ∙ leaf; case = inl same }
  | inr h ↦ let back : length places + (j - length places) ≡ j = omega arith in
      let less : j - length places < length places = omega arith in
      let rest : j - length places ≡ q = sym (mod-eq_of_lt less) ∙ sym (add-mod_left (length places) (j - length places)) ∙ ap (λ i. i % length places) back ∙ at in
      let same : length places + q ≡ j = omega arith in
      record { leaf = ap (λ i. letter places i) (sym same) ∙ letter-second places q ∙ leaf; case = inr (sym same) }
]

-- what a pair is in two turns
pub record IsMet (places : List ℕ) (p q j : ℕ) : Type 0 where
  pub inside : p < length places
  pub meeting : IsMeeting places p j
  pub where_it_is : (j ≡ q) ⊎ (j ≡ length places + q)
  pub at : j % length places ≡ q
  pub end_inside : q < length places

pub met_of_pair : (places : List ℕ) (p q : ℕ) → IsPair places p q → (j : ℕ) × IsMet places p q j
met_of_pair places p q h =
    let p_in : p < length places = bud_within places p h.bud in
    let near = h.in_turn in
    let last = end_of places (suc p + h.apart) q (omega arith) (omega arith) h.meets h.leaf in (
      suc p + h.apart,
      record {
        inside = p_in;
        meeting = record {
          bud = letter-first places p p_in ∙ h.bud;
          leaf = last.leaf;
          before = omega arith;
          level = (let all = stretched places p h.apart in omega (arith, h.equal, all.in_buds, all.in_leaves));
          above = (λ k low high. let e : suc p + (k - suc p) ≡ k = omega arith in
              let part = stretched places p (k - suc p) in
              let below = h.never_below (k - suc p) (omega arith) in
              let goal : leaves places (suc p + (k - suc p)) + buds places (suc p) ≤ buds places (suc p + (k - suc p)) + leaves places (suc p) = omega (arith, part.in_buds, part.in_leaves, below) in
              subst (λ (i : ℕ). leaves places i + buds places (suc p) ≤ buds places i + leaves places (suc p)) e goal);
        };
        where_it_is = last.case;
        at = h.meets;
        end_inside = leaf_within places q h.leaf;
      },
    )

-- a bud is in one pair at most
pub pair_unique : (places : List ℕ) (p q r : ℕ) → IsPair places p q → IsPair places p r → q ≡ r
pair_unique places p q r h g =
    let a = met_of_pair places p q h in
    let b = met_of_pair places p r g in
    sym a.1.at ∙ ap (λ i. i % length places) (meeting_unique places p a.0 b.0 a.1.meeting b.1.meeting) ∙ b.1.at

-- a leaf in a pair is met by a bud in the second turn
pub meeting_of_pair : (places : List ℕ) (p q : ℕ) → IsPair places p q → (r : ℕ) × IsMeeting places r (length places + q)
meeting_of_pair places p q h =
    let m = met_of_pair places p q h in
    elim m.1.where_it_is [
      | inl e ↦ (length places + p, meeting_up places p q (subst (λ (i : ℕ). IsMeeting places p i) e m.1.meeting) m.1.end_inside)
      | inr e ↦ (p, subst (λ (i : ℕ). IsMeeting places p i) e m.1.meeting)
    ]

-- a pair's meeting in the second turn
pub record IsMetLate (places : List ℕ) (p q r : ℕ) : Type 0 where
  pub late : IsMeeting places r (length places + q)
  pub back : r % length places ≡ p

pub late_of_pair : (places : List ℕ) (p q : ℕ) → IsPair places p q → (r : ℕ) × IsMetLate places p q r
late_of_pair places p q h =
    let m = met_of_pair places p q h in
    elim m.1.where_it_is [
      | inl e ↦ (length places + p, record { late = meeting_up places p q (subst (λ (i : ℕ). IsMeeting places p i) e m.1.meeting) m.1.end_inside; back = add-mod_left (length places) p ∙ mod-eq_of_lt m.1.inside })
      | inr e ↦ (p, record { late = subst (λ (i : ℕ). IsMeeting places p i) e m.1.meeting; back = mod-eq_of_lt m.1.inside })
    ]

-- a leaf is met by one bud at most
earlier_is_none : (places : List ℕ) (r p j : ℕ) → IsMeeting places r j → IsMeeting places p j → r < p → ⊥
earlier_is_none places r p j h g earlier =
    let step = at_bud places p g.bud in
    let before = g.before in
    let high = h.above p (omega arith) (omega arith) in
    omega (arith, step.more_buds, step.more_leaves, h.level, g.level)

pub met_by_one : (places : List ℕ) (r p j : ℕ) → IsMeeting places r j → IsMeeting places p j → r ≡ p
met_by_one places r p j h g = elim (cases_order r p) [
  | inl e ↦ e
  | inr o ↦ elim o [ inl l ↦ absurd (earlier_is_none places r p j h g l) | inr l ↦ absurd (earlier_is_none places p r j g h l) ]
]

-- a leaf is in one pair at most
pub pair_unique_leaf : (places : List ℕ) (p r q : ℕ) → IsPair places p q → IsPair places r q → p ≡ r
pair_unique_leaf places p r q h g =
    let a = late_of_pair places p q h in
    let b = late_of_pair places r q g in
    sym a.1.back ∙ ap (λ i. i % length places) (met_by_one places a.0 b.0 (length places + q) a.1.late b.1.late) ∙ b.1.back

-- every place from d on is at least as high as the place j
pub record IsHighFrom (places : List ℕ) (j d : ℕ) : Type 0 where
  pub high : (m : ℕ) → d ≤ m → m ≤ j → leaves places m + buds places j ≤ buds places m + leaves places j

-- a step up from below the place j is a bud
rise_is_bud : (places : List ℕ) (j d : ℕ) → letter places j ≡ LEAF → d < j → buds places d + leaves places j < leaves places d + buds places j → IsHighFrom places j (suc d) → letter places d ≡ BUD
rise_is_bud places j d leaf before down h =
    let first = h.high (suc d) (omega arith) (omega arith) in
    let j_in = leaf_in_turns places j leaf in
    elim (cases_eq (letter places d) BUD) [
      | inl e ↦ e
      | inr no_bud ↦ elim (cases_eq (letter places d) LEAF) [
        | inl e ↦ let step = at_leaf places d e in absurd (omega (arith, step.more_buds, step.more_leaves))
        | inr no_leaf ↦ let step = at_other places d (omega arith) no_bud no_leaf in absurd (omega (arith, step.more_buds, step.more_leaves))
      ]
    ]

pub rise_meets : (places : List ℕ) (j d : ℕ) → letter places j ≡ LEAF → d < j → buds places d + leaves places j < leaves places d + buds places j → IsHighFrom places j (suc d) → IsMeeting places d j
rise_meets places j d leaf before down h =
    let bud : letter places d ≡ BUD = rise_is_bud places j d leaf before down h in
    let step = at_bud places d bud in
    let first = h.high (suc d) (omega arith) (omega arith) in
    let level : buds places j + leaves places (suc d) ≡ leaves places j + buds places (suc d) = omega (arith, step.more_buds, step.more_leaves) in
    record {
      bud = bud;
      leaf = leaf;
      before = before;
      level = level;
      above = (λ m low near. let high = h.high m low near in omega arith);
    }

-- where the counts rise to a leaf, a bud meets it
met_from : (places : List ℕ) (j k n : ℕ) → letter places j ≡ LEAF → k + n ≤ j → IsHighFrom places j (k + n) → buds places k + leaves places j < leaves places k + buds places j → (p : ℕ) × (k ≤ p) × IsMeeting places p j
met_from places j k zero leaf near h rise = absurd (omega (arith, h.high k (omega arith) (omega arith)))
met_from places j k (suc n) leaf near h rise = elim (cases_lt (buds places (k + n) + leaves places j) (leaves places (k + n) + buds places j)) [
  | inr up ↦ met_from places j k n leaf (omega arith)
      (record { high = λ m low late. elim (cases_eq m (k + n)) [ inl e ↦ subst (λ (i : ℕ). leaves places i + buds places j ≤ buds places i + leaves places j) (sym e) up | inr ne ↦ h.high m (omega arith) late ] }) rise
  | inl down ↦ (k + n, omega arith, rise_meets places j (k + n) leaf (omega arith) down (record { high = λ m low late. h.high m (omega arith) late }))
]

pub met_after : (places : List ℕ) (j k : ℕ) → letter places j ≡ LEAF → k ≤ j → buds places k + leaves places j < leaves places k + buds places j → (p : ℕ) × (k ≤ p) × IsMeeting places p j
met_after places j k leaf near rise =
    let far : k + (j - k) ≡ j = omega arith in
    met_from places j k (j - k) leaf (omega arith)
    (record { high = λ m low late. let same : m ≡ j = omega arith in subst (λ (i : ℕ). leaves places i + buds places j ≤ buds places i + leaves places j) (sym same) (omega arith) }) rise
