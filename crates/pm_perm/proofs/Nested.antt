-- Pairs on the ring: they split it fully, into one more cycle for each pair, exactly where they are nested.
use Rattle.std.proofs.Common.{◌≡◌, ℕ, zero, suc, ◌+◌, ◌<◌, ◌≤◌, ◌⊎◌, ◌↔◌, inl, inr, cond, ltb, eqb, sym, ap, ◌∙◌, refl, arith}
use Rattle.std.proofs.lemmas.Bool.{cases_eq, cases_lt, cases_order}
use Rattle.pm_perm.specs.Permutation.{IsPermutationBelow}
use Rattle.pm_perm.specs.Cycles.{leader, cycles}
use Rattle.pm_perm.specs.Exchange.{IsProductBelow}
use Rattle.pm_perm.specs.Pairs.{IsRingBelow, IsInvolutionBelow, IsNestedBelow, pairs}
use Rattle.pm_perm.proofs.LeaderMaps.{IsKeptBelow, IsLeaderMap, leader-map}
use Rattle.pm_perm.proofs.Parted.{cycles-exchange}
use Rattle.pm_perm.proofs.Renumbered.{ring-permutes, cycles-ring}
use Rattle.pm_perm.proofs.PartPairs.{part, part-in, part-open, part-beyond, after_part, after_part-value, after_part-permutes, after_part-exchange, after_part-idle, after_part-none, after_part-all, after_part-at_most, pairs-more, pairs-idle}

-- a ring and pairs on it
record OnRing (n : ℕ) (s t : ℕ → ℕ) : Type 0 where
  ring : IsRingBelow n s
  paired : IsInvolutionBelow n t

-- A stretch from i to j in which each number has its partner: what is kept along the product is the same at both ends.
stretch : (n : ℕ) (s t value : ℕ → ℕ) (m : ℕ) → OnRing n s t → IsNestedBelow m t → m < n → IsKeptBelow n (after_part s t m) value
    → (fuel i j : ℕ) → i ≤ j → j ≤ i + fuel → j ≤ m
    → ((k : ℕ) → i ≤ k → k < j → i ≤ t k) → ((k : ℕ) → i ≤ k → k < j → t k < j) → value i ≡ value j
stretch n s t value m o nested h kept zero i j order close end above below = let e : i ≡ j = omega arith in ap value e
stretch n s t value m o nested h kept (suc fuel) i j order close end above below = elim (cases_eq i j) [
  | inl e ↦ ap value e
  | inr differ ↦
      let inner : i < j = omega (arith, differ, order) in
      let low : i ≤ t i = above i (omega arith) inner in
      let high : t i < j = below i (omega arith) inner in
      let r : IsRingBelow n s = o.ring in
      let v : IsInvolutionBelow n t = o.paired in
      let step : after_part s t m i ≡ suc (t i) =
      after_part-value s t m i ∙ ap s (part-in t m i (omega (arith, inner, end)) (omega (arith, high, end))) ∙ r.next (t i) (omega (arith, high, end, h)) in
      let first : value (suc (t i)) ≡ value i = ap value (sym step) ∙ kept.along i (omega (arith, inner, end, h)) in
      let later : (k : ℕ) → suc (t i) ≤ k → k < j → suc (t i) ≤ t k = λ k after hk.
      (let back : t (t k) ≡ k = v.twice k (omega (arith, hk, end, h)) in
      let back_i : t (t i) ≡ i = v.twice i (omega (arith, inner, end, h)) in
      let from_i : i ≤ t k = above k (omega (arith, low, after)) hk in
      elim (cases_lt (t i) (t k)) [
        | inl beyond ↦ omega (arith, beyond)
        | inr inside ↦ elim (cases_eq (t k) i) [
          | inl e ↦ absurd (omega (arith, back, ap t e, after))
          | inr ne ↦ elim (cases_eq (t k) (t i)) [
            | inl e ↦ absurd (omega (arith, back, ap t e, back_i, after, low))
            | inr ne' ↦
                let crossed : t (t k) < t i = nested.below i (t k) (omega (arith, high, end)) (omega (arith, from_i, ne)) (omega (arith, inside, ne')) in
                absurd (omega (arith, crossed, back, after))
          ]
        ]
      ]) in
      sym first ∙ stretch n s t value m o nested h kept fuel (suc (t i)) j (omega (arith, high)) (omega (arith, close, low)) end later
      (λ k after hk. below k (omega (arith, low, after)) hk)
]

nested-fewer : (m : ℕ) (t : ℕ → ℕ) → IsNestedBelow (suc m) t → IsNestedBelow m t
nested-fewer m t x = record {
  above = λ p r h h' h''. x.above p r (omega (arith, h)) h' h'';
  below = λ p r h h' h''. x.below p r (omega (arith, h)) h' h'';
}

-- the two ends of the next pair are in one cycle
ends_together : (n : ℕ) (s t : ℕ → ℕ) (m : ℕ) → OnRing n s t → IsNestedBelow (suc m) t → m < n → t m < m
    → leader n (after_part s t m) (t m) ≡ leader n (after_part s t m) m
ends_together n s t m o nested h lesser =
    let r : IsRingBelow n s = o.ring in
    let v : IsInvolutionBelow n t = o.paired in
    let back : t (t m) ≡ m = v.twice m h in
    let led : IsLeaderMap n (after_part s t m) (leader n (after_part s t m)) =
    leader-map n (after_part s t m) (after_part-permutes n s t m (ring-permutes n s r) v (omega arith)) in
    let value : ℕ → ℕ = leader n (after_part s t m) in
    let kept : IsKeptBelow n (after_part s t m) (leader n (after_part s t m)) = record { along = led.along } in
    let step : after_part s t m (t m) ≡ suc (t m) = after_part-value s t m (t m) ∙ ap s (part-open t m (t m) (omega (arith, back))) ∙ r.next (t m) (omega (arith, lesser)) in
    let first : value (suc (t m)) ≡ value (t m) = ap value (sym step) ∙ kept.along (t m) (omega (arith, lesser)) in
    sym first ∙ stretch n s t (leader n (after_part s t m)) m o (nested-fewer m t nested) h kept m (suc (t m)) m (omega (arith, lesser)) (omega arith) (omega arith)
    (λ k after hk. (let inside : t m < t k = nested.above (t m) k (omega (arith, back)) (omega arith) (omega (arith, back)) in omega (arith, inside)))
    (λ k after hk. (let inside : t k < t (t m) = nested.below (t m) k (omega (arith, back)) (omega arith) (omega (arith, back)) in omega (arith, inside, back)))

-- an exchange of two different numbers with one leader makes one more cycle, and one that makes one more has these
splits : (c c' l l' a b : ℕ) → c' + cond (eqb l l') 0 2 ≡ c + cond (eqb a b) 0 1 → (a ≡ b → ⊥) → l ≡ l' → c' ≡ c + 1
splits c c' l l' a b law differ same = grind arith

has_split : (c c' l l' a b : ℕ) → c' + cond (eqb l l') 0 2 ≡ c + cond (eqb a b) 0 1 → (a ≡ b → ⊥) → c' ≡ c + 1 → l ≡ l'
has_split c c' l l' a b law differ more = grind arith

law_at : (n : ℕ) (s t : ℕ → ℕ) (m : ℕ) → OnRing n s t → m < n → t m < m
    → cycles n (after_part s t (suc m)) + cond (eqb (leader n (after_part s t m) (t m)) (leader n (after_part s t m) m)) 0 2 ≡ cycles n (after_part s t m) + cond (eqb (t m) m) 0 1
law_at n s t m o h lesser =
    let v : IsInvolutionBelow n t = o.paired in
    cycles-exchange n (after_part s t m) (after_part s t (suc m)) (t m) m (after_part-permutes n s t m (ring-permutes n s o.ring) v (omega arith)) (v.stays m h) h
    (after_part-exchange n s t m v h lesser)

nested_part : (n : ℕ) (s t : ℕ → ℕ) → 0 < n → OnRing n s t → (m : ℕ) → m ≤ n → IsNestedBelow m t → cycles n (after_part s t m) ≡ 1 + pairs m t
nested_part n s t some o zero h nested = omega (arith, after_part-none n s t (ring-permutes n s o.ring), cycles-ring n s some o.ring)
nested_part n s t some o (suc m) h nested =
    let before : cycles n (after_part s t m) ≡ 1 + pairs m t = nested_part n s t some o m (omega arith) (nested-fewer m t nested) in
    elim (cases_lt (t m) m) [
      | inl lesser ↦
          let more : cycles n (after_part s t (suc m)) ≡ cycles n (after_part s t m) + 1 =
          splits (cycles n (after_part s t m)) (cycles n (after_part s t (suc m))) (leader n (after_part s t m) (t m)) (leader n (after_part s t m) m) (t m) m
          (law_at n s t m o (omega arith) lesser) (λ e. omega (arith, e, lesser)) (ends_together n s t m o nested (omega arith) lesser) in
          omega (arith, before, more, pairs-more t m lesser)
      | inr idle ↦ omega (arith, before, after_part-idle n s t m (ring-permutes n s o.ring) o.paired (omega arith) idle, pairs-idle t m idle)
    ]

-- nested pairs split the ring fully
pub cycles-nested : (n : ℕ) (f s t : ℕ → ℕ) → 0 < n → IsRingBelow n s → IsInvolutionBelow n t → IsProductBelow n f s t → IsNestedBelow n t → cycles n f ≡ 1 + pairs n t
cycles-nested n f s t some r v x nested =
    sym (after_part-all n f s t (ring-permutes n s r) v x) ∙ nested_part n s t some (record { ring = r; paired = v }) n (omega arith) nested

-- 1 above low and up to high, else 0
between : ℕ → ℕ → ℕ → ℕ
between low high x = cond (ltb low x) (cond (ltb high x) 0 1) 0

between-in : (low high x : ℕ) → low < x → x ≤ high → between low high x ≡ 1
unfolding between
between-in low high x h h' = grind arith

between-low : (low high x : ℕ) → x ≤ low → between low high x ≡ 0
unfolding between
between-low low high x h = grind arith

between-high : (low high x : ℕ) → high < x → between low high x ≡ 0
unfolding between
between-high low high x h = grind arith

-- no two pairs below the bound cross
record NoneCross (m : ℕ) (t : ℕ → ℕ) : Type 0 where
  above : (p r : ℕ) → t p < m → t r < m → p < r → r < t p → p < t r
  below : (p r : ℕ) → t p < m → t r < m → p < r → r < t p → t r < t p

-- a pair below the bound
record Inner (n m : ℕ) (s t : ℕ → ℕ) (low high : ℕ) : Type 0 where
  around : OnRing n s t
  bound : m < n
  uncrossed : NoneCross m t
  partner : t low ≡ high
  order : low < high
  end : high < m

ring_in : (n m : ℕ) (s t : ℕ → ℕ) (low high : ℕ) → Inner n m s t low high → (y : ℕ) → low ≤ y → y < high → between low high (s y) ≡ 1
ring_in n m s t low high w y h h' =
    let o : OnRing n s t = w.around in
    let r : IsRingBelow n s = o.ring in
    let e : s y ≡ suc y = r.next y (omega (arith, h', w.end, w.bound)) in
    between-in low high (s y) (omega (arith, e, h)) (omega (arith, e, h'))

ring_low : (n m : ℕ) (s t : ℕ → ℕ) (low high : ℕ) → Inner n m s t low high → (y : ℕ) → y < low → between low high (s y) ≡ 0
ring_low n m s t low high w y h =
    let o : OnRing n s t = w.around in
    let r : IsRingBelow n s = o.ring in
    let e : s y ≡ suc y = r.next y (omega (arith, h, w.order, w.end, w.bound)) in
    between-low low high (s y) (omega (arith, e, h))

ring_high : (n m : ℕ) (s t : ℕ → ℕ) (low high : ℕ) → Inner n m s t low high → (y : ℕ) → y < n → high ≤ y → between low high (s y) ≡ 0
ring_high n m s t low high w y hy h =
    let o : OnRing n s t = w.around in
    let r : IsRingBelow n s = o.ring in
    elim (cases_eq (suc y) n) [
      | inl last ↦ between-low low high (s y) (omega (arith, r.last y last))
      | inr inner ↦ between-high low high (s y) (omega (arith, r.next y (omega (arith, inner, hy)), h))
    ]

-- what doesn't lie under the pair isn't led under it
stays_out : (n m : ℕ) (s t : ℕ → ℕ) (low high : ℕ) → Inner n m s t low high → (k : ℕ) → k < n → (k ≤ low) ⊎ (high < k) → between low high (s (part t m k)) ≡ 0
stays_out n m s t low high w k hk out =
    let o : OnRing n s t = w.around in
    let v : IsInvolutionBelow n t = o.paired in
    let u : NoneCross m t = w.uncrossed in
    let e : t low ≡ high = w.partner in
    let back_low : t (t low) ≡ low = v.twice low (omega (arith, w.order, w.end, w.bound)) in
    let back : t (t k) ≡ k = v.twice k hk in
    elim (cases_lt k m) [
      | inr beyond ↦ ap (λ y. between low high (s y)) (part-beyond t m k beyond) ∙ ring_high n m s t low high w k hk (omega (arith, beyond, w.end))
      | inl inner ↦ elim (cases_lt (t k) m) [
        | inr open_end ↦
            ap (λ y. between low high (s y)) (part-open t m k open_end) ∙ elim out [
              | inr over ↦ ring_high n m s t low high w k hk (omega (arith, over))
              | inl under ↦ ring_low n m s t low high w k (elim (cases_eq k low) [
                | inl at_low ↦ absurd (omega (arith, ap t at_low, e, open_end, w.end))
                | inr not_low ↦ omega (arith, under, not_low)
              ])
            ]
        | inl closed ↦
            ap (λ y. between low high (s y)) (part-in t m k inner closed) ∙ elim (cases_lt (t k) low) [
              | inl lower ↦ ring_low n m s t low high w (t k) lower
              | inr not_lower ↦ elim (cases_lt (t k) high) [
                | inr upper ↦ ring_high n m s t low high w (t k) (v.stays k hk) upper
                | inl under_high ↦ elim (cases_eq (t k) low) [
                  | inl at_low ↦ absurd (elim out [
                    | inl under ↦ omega (arith, ap t at_low, back, e, under, w.order)
                    | inr over ↦ omega (arith, ap t at_low, back, e, over)
                  ])
                  | inr not_low ↦
                      let above : low < t (t k) = u.above low (t k) (omega (arith, e, w.end)) (omega (arith, back, inner)) (omega (arith, not_lower, not_low)) (omega (arith, e, under_high)) in
                      let below : t (t k) < t low = u.below low (t k) (omega (arith, e, w.end)) (omega (arith, back, inner)) (omega (arith, not_lower, not_low)) (omega (arith, e, under_high)) in
                      absurd (elim out [ inl under ↦ omega (arith, above, back, under) | inr over ↦ omega (arith, below, back, e, over) ])
                ]
              ]
            ]
      ]
    ]

-- what lies under the pair stays under it
stays_in : (n m : ℕ) (s t : ℕ → ℕ) (low high : ℕ) → Inner n m s t low high → (k : ℕ) → low < k → k ≤ high → between low high (s (part t m k)) ≡ 1
stays_in n m s t low high w k h h' =
    let o : OnRing n s t = w.around in
    let v : IsInvolutionBelow n t = o.paired in
    let u : NoneCross m t = w.uncrossed in
    let e : t low ≡ high = w.partner in
    let back_low : t (t low) ≡ low = v.twice low (omega (arith, w.order, w.end, w.bound)) in
    let inner : k < m = omega (arith, h', w.end) in
    elim (cases_eq k high) [
      | inl at_high ↦
          let at_end : t k ≡ low = ap t (at_high ∙ sym e) ∙ back_low in
          ap (λ y. between low high (s y)) (part-in t m k inner (omega (arith, at_end, w.order, w.end)) ∙ at_end) ∙ ring_in n m s t low high w low (omega arith) w.order
      | inr under_high ↦ elim (cases_lt (t k) m) [
        | inr open_end ↦ ap (λ y. between low high (s y)) (part-open t m k open_end) ∙ ring_in n m s t low high w k (omega (arith, h)) (omega (arith, h', under_high))
        | inl closed ↦
            let above : low < t k = u.above low k (omega (arith, e, w.end)) closed h (omega (arith, e, h', under_high)) in
            let below : t k < t low = u.below low k (omega (arith, e, w.end)) closed h (omega (arith, e, h', under_high)) in
            ap (λ y. between low high (s y)) (part-in t m k inner closed) ∙ ring_in n m s t low high w (t k) (omega (arith, above)) (omega (arith, below, e))
      ]
    ]

between_kept : (n m : ℕ) (s t : ℕ → ℕ) (low high : ℕ) → Inner n m s t low high → IsKeptBelow n (after_part s t m) (between low high)
between_kept n m s t low high w = record {
  along = λ k hk. ap (between low high) (after_part-value s t m k) ∙ elim (cases_lt low k) [
    | inr under ↦ stays_out n m s t low high w k hk (inl under) ∙ sym (between-low low high k under)
    | inl above ↦ elim (cases_lt high k) [
      | inl over ↦ stays_out n m s t low high w k hk (inr over) ∙ sym (between-high low high k over)
      | inr within ↦ stays_in n m s t low high w k above within ∙ sym (between-in low high k above within)
    ]
  ];
}

-- where the next pair splits a cycle, it crosses none of the pairs before
no_cross : (n m : ℕ) (s t : ℕ → ℕ) (low high : ℕ) → Inner n m s t low high → low < t m → t m < high
    → leader n (after_part s t m) (t m) ≡ leader n (after_part s t m) m → ⊥
no_cross n m s t low high w h h' same =
    let o : OnRing n s t = w.around in
    let v : IsInvolutionBelow n t = o.paired in
    let led : IsLeaderMap n (after_part s t m) (leader n (after_part s t m)) =
    leader-map n (after_part s t m) (after_part-permutes n s t m (ring-permutes n s o.ring) v (omega (arith, w.bound))) in
    let kept : IsKeptBelow n (after_part s t m) (between low high) = between_kept n m s t low high w in
    let one : between low high (t m) ≡ between low high m =
    sym (led.joins (between low high) kept (t m) (v.stays m w.bound)) ∙ ap (between low high) same ∙ led.joins (between low high) kept m w.bound in
    omega (arith, one, between-in low high (t m) h (omega (arith, h')), between-high low high m w.end)

none_cross_more : (n : ℕ) (s t : ℕ → ℕ) (m : ℕ) → OnRing n s t → m < n → NoneCross m t → t m < m
    → leader n (after_part s t m) (t m) ≡ leader n (after_part s t m) m → NoneCross (suc m) t
none_cross_more n s t m o h u lesser same = record {
  above = λ p r hp hr h' h''. (both n s t m o h u lesser same p r hp hr h' h'').0;
  below = λ p r hp hr h' h''. (both n s t m o h u lesser same p r hp hr h' h'').1;
} where
  both : (n : ℕ) (s t : ℕ → ℕ) (m : ℕ) → OnRing n s t → m < n → NoneCross m t → t m < m → leader n (after_part s t m) (t m) ≡ leader n (after_part s t m) m
      → (p r : ℕ) → t p < suc m → t r < suc m → p < r → r < t p → (p < t r) × (t r < t p)
  both n s t m o h u lesser same p r hp hr h' h'' =
      let v : IsInvolutionBelow n t = o.paired in
      let back_p : t (t p) ≡ p = v.twice p (omega (arith, h, hp, h', h'')) in
      let back_r : t (t r) ≡ r = v.twice r (omega (arith, h, hp, h'')) in
      elim (cases_eq (t p) m) [
        | inl last ↦
            let is_p : t m ≡ p = ap t (sym last) ∙ back_p in
            elim (cases_eq (t r) m) [
              | inl last_r ↦ absurd (omega (arith, ap t last_r, back_r, is_p, h'))
              | inr inner_r ↦ elim (cases_order (t r) p) [
                | inl at_p ↦ absurd (omega (arith, ap t at_p, back_r, h''))
                | inr apart ↦ elim apart [
                  | inl under ↦ absurd (no_cross n m s t (t r) r
                      (record { around = o; bound = h; uncrossed = u; partner = back_r; order = omega (arith, under, h'); end = omega (arith, h'', last) })
                      (omega (arith, under, is_p)) (omega (arith, h', is_p)) same)
                  | inr over ↦ (over, omega (arith, hr, inner_r, last))
                ]
              ]
            ]
        | inr inner_p ↦ elim (cases_eq (t r) m) [
          | inl last_r ↦
              let is_r : t m ≡ r = ap t (sym last_r) ∙ back_r in
              absurd (no_cross n m s t p (t p)
              (record { around = o; bound = h; uncrossed = u; partner = refl; order = omega (arith, h', h''); end = omega (arith, hp, inner_p) })
              (omega (arith, h', is_r)) (omega (arith, h'', is_r)) same)
          | inr inner_r ↦ (u.above p r (omega (arith, hp, inner_p)) (omega (arith, hr, inner_r)) h' h'', u.below p r (omega (arith, hp, inner_p)) (omega (arith, hr, inner_r)) h' h'')
        ]
      ]

none_cross_idle : (n : ℕ) (t : ℕ → ℕ) (m : ℕ) → IsInvolutionBelow n t → m < n → NoneCross m t → m ≤ t m → NoneCross (suc m) t
none_cross_idle n t m v h u idle = record {
  above = λ p r hp hr h' h''. u.above p r (inner_p n t m v h idle p r hp h' h'') (inner_r n t m v h idle p r hp hr h' h'') h' h'';
  below = λ p r hp hr h' h''. u.below p r (inner_p n t m v h idle p r hp h' h'') (inner_r n t m v h idle p r hp hr h' h'') h' h'';
} where
  inner_p : (n : ℕ) (t : ℕ → ℕ) (m : ℕ) → IsInvolutionBelow n t → m < n → m ≤ t m → (p r : ℕ) → t p < suc m → p < r → r < t p → t p < m
  inner_p n t m v h idle p r hp h' h'' = elim (cases_eq (t p) m) [
    | inl last ↦ absurd (omega (arith, ap t last, v.twice p (omega (arith, h, hp, h', h'')), idle, hp, h', h''))
    | inr inner ↦ omega (arith, hp, inner)
  ]

  inner_r : (n : ℕ) (t : ℕ → ℕ) (m : ℕ) → IsInvolutionBelow n t → m < n → m ≤ t m → (p r : ℕ) → t p < suc m → t r < suc m → p < r → r < t p → t r < m
  inner_r n t m v h idle p r hp hr h' h'' = elim (cases_eq (t r) m) [
    | inl last ↦ absurd (omega (arith, ap t last, v.twice r (omega (arith, h, hp, h'')), idle, hp, h''))
    | inr inner ↦ omega (arith, hr, inner)
  ]

full_part : (n : ℕ) (s t : ℕ → ℕ) → 0 < n → OnRing n s t → (m : ℕ) → m ≤ n → cycles n (after_part s t m) ≡ 1 + pairs m t → NoneCross m t
full_part n s t some o zero h full = record { above = λ p r hp hr h' h''. absurd (omega (arith, hp)); below = λ p r hp hr h' h''. absurd (omega (arith, hp)) }
full_part n s t some o (suc m) h full =
    let p : IsPermutationBelow n s = ring-permutes n s o.ring in
    let v : IsInvolutionBelow n t = o.paired in
    let bound : cycles n (after_part s t m) ≤ cycles n s + pairs m t = after_part-at_most n s t p v m (omega arith) in
    let ring : cycles n s ≡ 1 = cycles-ring n s some o.ring in
    elim (cases_lt (t m) m) [
      | inl lesser ↦
          let law : cycles n (after_part s t (suc m)) + cond (eqb (leader n (after_part s t m) (t m)) (leader n (after_part s t m) m)) 0 2 ≡ cycles n (after_part s t m) + cond (eqb (t m) m) 0 1 =
          law_at n s t m o (omega arith) lesser in
          let differ : t m ≡ m → ⊥ = λ e. omega (arith, e, lesser) in
          let at_most : cycles n (after_part s t (suc m)) ≤ cycles n (after_part s t m) + 1 =
          one_more (cycles n (after_part s t m)) (cycles n (after_part s t (suc m))) (leader n (after_part s t m) (t m)) (leader n (after_part s t m) m) (t m) m law in
          let exact : cycles n (after_part s t m) ≡ 1 + pairs m t = omega (arith, bound, ring, full, at_most, pairs-more t m lesser) in
          let same : leader n (after_part s t m) (t m) ≡ leader n (after_part s t m) m =
          has_split (cycles n (after_part s t m)) (cycles n (after_part s t (suc m))) (leader n (after_part s t m) (t m)) (leader n (after_part s t m) m) (t m) m law differ
          (omega (arith, full, exact, pairs-more t m lesser)) in
          none_cross_more n s t m o (omega arith) (full_part n s t some o m (omega arith) exact) lesser same
      | inr idle ↦
          let exact : cycles n (after_part s t m) ≡ 1 + pairs m t = omega (arith, full, after_part-idle n s t m p v (omega arith) idle, pairs-idle t m idle) in
          none_cross_idle n t m v (omega arith) (full_part n s t some o m (omega arith) exact) idle
    ] where
      one_more : (c c' l l' a b : ℕ) → c' + cond (eqb l l') 0 2 ≡ c + cond (eqb a b) 0 1 → c' ≤ c + 1
      one_more c c' l l' a b law = grind arith

-- only nested pairs split the ring fully
pub nested-of_cycles : (n : ℕ) (f s t : ℕ → ℕ) → 0 < n → IsRingBelow n s → IsInvolutionBelow n t → IsProductBelow n f s t → cycles n f ≡ 1 + pairs n t → IsNestedBelow n t
nested-of_cycles n f s t some r v x full =
    let u : NoneCross n t = full_part n s t some (record { ring = r; paired = v }) n (omega arith) (after_part-all n f s t (ring-permutes n s r) v x ∙ full) in
    record {
      above = λ p k hp h h'. u.above p k hp (v.stays k (omega (arith, hp, h'))) h h';
      below = λ p k hp h h'. u.below p k hp (v.stays k (omega (arith, hp, h'))) h h';
    }

-- pairs split the ring fully exactly where they are nested
pub nested-iff_cycles : (n : ℕ) (f s t : ℕ → ℕ) → 0 < n → IsRingBelow n s → IsInvolutionBelow n t → IsProductBelow n f s t → IsNestedBelow n t ↔ (cycles n f ≡ 1 + pairs n t)
nested-iff_cycles n f s t some r v x = (cycles-nested n f s t some r v x, nested-of_cycles n f s t some r v x)
