-- In a balanced contour no pair passes the plant, and pairs are nested.
use Rattle.std.proofs.Common.{◌≡◌, ℕ, suc, ◌+◌, ◌<◌, ◌≤◌, inl, inr, List, length, sym, ◌∙◌, subst, arith}
use Rattle.std.proofs.lemmas.Bool.{cases_lt, cases_eq}
use Rattle.pm_trees.specs.declared.letters.TheConstants.{LEAF}
use Rattle.pm_match.specs.Pair.{IsPair, IsFree}
use Rattle.pm_match.proofs.Counts.{letter, buds, leaves, letter-first, letter-second, at_bud, at_leaf, leaf_within, HasSurplus}
use Rattle.pm_match.proofs.Meeting.{IsMeeting, met_of_pair, met_by_one, met_after, pair_first, pair_of_meeting}

-- a contour with a free plant
pub record IsStraight (places : List ℕ) : Type 0 where
  pub surplus : HasSurplus places
  pub plant : IsFree places 0

-- no prefix has more than two leaves more than buds
pub low : (places : List ℕ) → IsStraight places → (k : ℕ) → k ≤ length places → leaves places k ≤ buds places k + 2
low places s k le = elim (cases_lt (buds places k + 2) (leaves places k)) [
  | inr fine ↦ omega (arith, fine)
  | inl over ↦
      let some : 0 < length places = leaf_within places 0 s.plant.leaf in
      let again : letter places (length places + 0) ≡ LEAF = letter-second places 0 ∙ s.plant.leaf in
      let here : length places + 0 ≡ length places = omega arith in
      let met = met_after places (length places) k (subst (λ (i : ℕ). letter places i ≡ LEAF) here again) le (let u = s.surplus.surplus in omega arith) in
      let pair = pair_of_meeting places met.0 0 s.surplus (subst (λ (i : ℕ). IsMeeting places met.0 i) (sym here) met.2) some in
      absurd (s.plant.alone pair.0 pair.1)
]

-- the bud of a pair stands before its leaf
pub straight : (places : List ℕ) → IsStraight places → (p q : ℕ) → IsPair places p q → IsMeeting places p q
straight places s p q pair =
    let met = met_of_pair places p q pair in
    elim met.1.where_it_is [
      | inl e ↦ subst (λ (j : ℕ). IsMeeting places p j) e met.1.meeting
      | inr e ↦ absurd (around places s p q pair (subst (λ (j : ℕ). IsMeeting places p j) e met.1.meeting) met.1.inside)
    ] where
      around : (places : List ℕ) → IsStraight places → (p q : ℕ) → IsPair places p q → IsMeeting places p (length places + q) → p < length places → ⊥
      around places s p q pair meets l = elim (cases_eq q 0) [
        | inl e ↦ s.plant.alone p (subst (λ (k : ℕ). IsPair places p k) e pair)
        | inr ne ↦
            let again : letter places (length places + 0) ≡ LEAF = letter-second places 0 ∙ s.plant.leaf in
            let here : length places + 0 ≡ length places = omega arith in
            let step = at_leaf places (length places) (subst (λ (i : ℕ). letter places i ≡ LEAF) here again) in
            let high = meets.above (suc (length places)) (omega arith) (omega arith) in
            let u = s.surplus.surplus in
            let under = low places s (suc p) (omega arith) in
            omega (arith, step.more_buds, step.more_leaves, high, u, under)
      ]

-- a bud between the two of a pair meets its leaf there
pub bud_inside : (places : List ℕ) (p q r u : ℕ) → IsMeeting places p q → IsMeeting places r u → p < r → r < q → u < q
bud_inside places p q r u outer inner low_r high_r = elim (cases_lt u q) [
  | inl l ↦ l
  | inr g ↦ elim (cases_eq u q) [
    | inl e ↦ absurd (apart p r low_r (met_by_one places p r q outer (subst (λ (k : ℕ). IsMeeting places r k) e inner)))
    | inr ne ↦
        let at_q = at_leaf places q outer.leaf in
        let at_r = at_bud places r inner.bud in
        let over = inner.above (suc q) (omega arith) (omega arith) in
        let under = outer.above r (omega arith) (omega arith) in
        absurd (omega (arith, at_q.more_buds, at_q.more_leaves, at_r.more_buds, at_r.more_leaves, over, under, outer.level))
  ]
] where
  apart : (p r : ℕ) → p < r → p ≡ r → ⊥
  apart p r l e = omega arith

-- a leaf between the two of a pair meets its bud there
pub leaf_inside : (places : List ℕ) (p q r : ℕ) → IsMeeting places p q → letter places r ≡ LEAF → p < r → r < q → (b : ℕ) × (p < b) × IsMeeting places b r
leaf_inside places p q r outer leaf low_r high_r =
    let at_r = at_leaf places r leaf in
    let over = outer.above (suc r) (omega arith) (omega arith) in
    let met = met_after places r (suc p) leaf (omega arith) (omega (arith, at_r.more_buds, at_r.more_leaves, over)) in
    (met.0, omega (arith, met.1), met.2)

-- a bud before a free leaf meets its leaf before it
pub bud_before_free : (places : List ℕ) (f r u : ℕ) → IsFree places f → f < length places → IsMeeting places r u → r < f → u < f
bud_before_free places f r u free l inner before = elim (cases_lt u f) [
  | inl less ↦ less
  | inr g ↦ elim (cases_eq u f) [
    | inl e ↦ absurd (free.alone r (pair_first places r f (subst (λ (k : ℕ). IsMeeting places r k) e inner) l))
    | inr ne ↦
        let leaf : letter places f ≡ LEAF = letter-first places f l ∙ free.leaf in
        let at_f = at_leaf places f leaf in
        let at_r = at_bud places r inner.bud in
        let over = inner.above (suc f) (omega arith) (omega arith) in
        let met = met_after places f r leaf (omega arith) (omega (arith, at_f.more_buds, at_f.more_leaves, at_r.more_buds, at_r.more_leaves, over)) in
        absurd (free.alone met.0 (pair_first places met.0 f met.2 l))
  ]
]
