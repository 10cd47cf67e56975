-- The exchange of two values in different cycles makes them one.
use Rattle.std.proofs.Common.{◌≡◌, ℕ, zero, suc, ◌+◌, ◌<◌, ◌≤◌, ◌⊎◌, inl, inr, cond, not, ◌&&◌, eqb, sym, ap, ◌∙◌, refl, eq-eqb, ne_eqb, arith}
use Rattle.std.proofs.lemmas.Bool.{cases_eq, cases_order, cond-true, cond-false}
use Rattle.pm_perm.specs.Count.{count_below}
use Rattle.pm_perm.specs.Permutation.{IsPermutationBelow}
use Rattle.pm_perm.specs.Cycles.{repeated, leader, cycles}
use Rattle.pm_perm.specs.Exchange.{IsExchangeBelow}
use Rattle.pm_perm.proofs.Counts.{count_below-same, count_below-without}
use Rattle.pm_perm.proofs.Repeats.{repeated-inside, repeated-first, HasPeriod, period}
use Rattle.pm_perm.proofs.LeaderMaps.{IsKeptBelow, IsLeaderMap, repeated-kept, leader-map, leader_maps-agree, leader_map-inside, leader_map-twice, cycles-count}

-- the exchange read the other way
pub exchange-back : (n : ℕ) (f g : ℕ → ℕ) (a b : ℕ) → IsExchangeBelow n f g a b → IsExchangeBelow n g f a b
exchange-back n f g a b x = record { at_first = sym x.at_second; at_second = sym x.at_first; elsewhere = λ k h na nb. sym (x.elsewhere k h na nb) }

pub exchange-turned : (n : ℕ) (f g : ℕ → ℕ) (a b : ℕ) → IsExchangeBelow n f g a b → IsExchangeBelow n f g b a
exchange-turned n f g a b x = record { at_first = x.at_second; at_second = x.at_first; elsewhere = λ k h nb na. x.elsewhere k h na nb }

-- the number whose value comes to k
turned : ℕ → ℕ → ℕ → ℕ
turned a b k = cond (eqb k a) b (cond (eqb k b) a k)

turned-value : (n : ℕ) (f g : ℕ → ℕ) (a b : ℕ) → IsExchangeBelow n f g a b → (k : ℕ) → k < n → g k ≡ f (turned a b k)
unfolding turned
turned-value n f g a b x k h = elim (cases_eq k a) [
  | inl e ↦ ap g e ∙ x.at_first ∙ ap f (sym (cond-true (eqb k a) b (cond (eqb k b) a k) (eq-eqb k a e)))
  | inr na ↦ elim (cases_eq k b) [
    | inl e ↦ ap g e ∙ x.at_second ∙ ap f (sym (cond-false (eqb k a) b (cond (eqb k b) a k) (ne_eqb k a na) ∙ cond-true (eqb k b) a k (eq-eqb k b e)))
    | inr nb ↦ x.elsewhere k h na nb ∙ ap f (sym (cond-false (eqb k a) b (cond (eqb k b) a k) (ne_eqb k a na) ∙ cond-false (eqb k b) a k (ne_eqb k b nb)))
  ]
]

turned-inside : (n a b k : ℕ) → a < n → b < n → k < n → turned a b k < n
unfolding turned
turned-inside n a b k ha hb h = grind arith

turned-twice : (a b k : ℕ) → turned a b (turned a b k) ≡ k
unfolding turned
turned-twice a b k = grind arith

-- after an exchange a permutation is one
pub exchange-permutes : (n : ℕ) (f g : ℕ → ℕ) (a b : ℕ) → IsPermutationBelow n f → a < n → b < n → IsExchangeBelow n f g a b → IsPermutationBelow n g
exchange-permutes n f g a b p ha hb x = record {
  stays = λ k h. (let inside : f (turned a b k) < n = p.stays (turned a b k) (turned-inside n a b k ha hb h) in omega (arith, inside, turned-value n f g a b x k h));
  injective = λ j k hj hk e. (let same : turned a b j ≡ turned a b k = p.injective (turned a b j) (turned a b k) (turned-inside n a b j ha hb hj) (turned-inside n a b k ha hb hk) (sym (turned-value n f g a b x j hj) ∙ e ∙ turned-value n f g a b x k hk) in
      sym (turned-twice a b j) ∙ ap (turned a b) same ∙ turned-twice a b k);
}

-- two numbers with different leaders, and a value that is kept along the exchanged function
record Apart (n : ℕ) (f g : ℕ → ℕ) (a b : ℕ) (lead : ℕ → ℕ) : Type 0 where
  permutes : IsPermutationBelow n f
  first : a < n
  second : b < n
  exchanged : IsExchangeBelow n f g a b
  leads : IsLeaderMap n f lead
  apart : lead a ≡ lead b → ⊥

-- from the first number on, the value is that of the second, until it comes back to the first
walked : (n : ℕ) (f g : ℕ → ℕ) (a b : ℕ) (lead value : ℕ → ℕ) → Apart n f g a b lead → IsKeptBelow n g value
    → (k : ℕ) → (value (repeated f k (f a)) ≡ value b) ⊎ (value a ≡ value b)
walked n f g a b lead value w kept zero = let x : IsExchangeBelow n f g a b = w.exchanged in inl (ap value (sym x.at_second) ∙ kept.along b w.second)
walked n f g a b lead value w kept (suc k) = elim (walked n f g a b lead value w kept k) [
  | inr done ↦ inr done
  | inl e ↦ elim (cases_eq (repeated f k (f a)) a) [
    | inl back ↦ inr (ap value (sym back) ∙ e)
    | inr not_first ↦
        let p : IsPermutationBelow n f = w.permutes in
        let m : IsLeaderMap n f lead = w.leads in
        let x : IsExchangeBelow n f g a b = w.exchanged in
        let inside : repeated f k (f a) < n = repeated-inside f n p k (f a) (p.stays a w.first) in
        let led : lead (repeated f k (f a)) ≡ lead a = repeated-kept n f lead p (record { along = m.along }) k (f a) (p.stays a w.first) ∙ m.along a w.first in
        let not_second : repeated f k (f a) ≡ b → ⊥ = λ is_b. w.apart (sym led ∙ ap lead is_b) in
        inl (ap value (sym (x.elsewhere (repeated f k (f a)) inside not_first not_second)) ∙ kept.along (repeated f k (f a)) inside ∙ e)
  ]
]

joined : (n : ℕ) (f g : ℕ → ℕ) (a b : ℕ) (lead value : ℕ → ℕ) → Apart n f g a b lead → IsKeptBelow n g value → value a ≡ value b
joined n f g a b lead value w kept =
    let round : HasPeriod f n a = period f n a w.permutes w.first in
    elim (walked n f g a b lead value w kept round.fewer) [
      | inl e ↦ ap value (sym (repeated-first f round.fewer a ∙ round.returns)) ∙ e
      | inr e ↦ e
    ]

kept_before : (n : ℕ) (f g : ℕ → ℕ) (a b : ℕ) (lead value : ℕ → ℕ) → Apart n f g a b lead → IsKeptBelow n g value → IsKeptBelow n f value
kept_before n f g a b lead value w kept =
    let x : IsExchangeBelow n f g a b = w.exchanged in
    let one : value a ≡ value b = joined n f g a b lead value w kept in
    record {
      along = λ k h. elim (cases_eq k a) [
        | inl is_a ↦ ap (λ i. value (f i)) is_a ∙ ap value (sym x.at_second) ∙ kept.along b w.second ∙ sym one ∙ sym (ap value is_a)
        | inr na ↦ elim (cases_eq k b) [
          | inl is_b ↦ ap (λ i. value (f i)) is_b ∙ ap value (sym x.at_first) ∙ kept.along a w.first ∙ one ∙ sym (ap value is_b)
          | inr nb ↦ ap value (sym (x.elsewhere k h na nb)) ∙ kept.along k h
        ]
      ];
    }

-- the leaders with the greater of two replaced by the lesser
merged : ℕ → ℕ → ℕ → ℕ
merged low high x = cond (eqb x high) low x

merged-high : (low high x : ℕ) → x ≡ high → merged low high x ≡ low
unfolding merged
merged-high low high x e = cond-true (eqb x high) low x (eq-eqb x high e)

merged-other : (low high x : ℕ) → (x ≡ high → ⊥) → merged low high x ≡ x
unfolding merged
merged-other low high x e = cond-false (eqb x high) low x (ne_eqb x high e)

merged-map : (n : ℕ) (f g : ℕ → ℕ) (a b : ℕ) (lead : ℕ → ℕ) → Apart n f g a b lead → lead a < lead b → IsLeaderMap n g (λ k. merged (lead a) (lead b) (lead k))
merged-map n f g a b lead w less =
    let m : IsLeaderMap n f lead = w.leads in
    let x : IsExchangeBelow n f g a b = w.exchanged in
    let at_a : merged (lead a) (lead b) (lead a) ≡ lead a = merged-other (lead a) (lead b) (lead a) w.apart in
    let at_b : merged (lead a) (lead b) (lead b) ≡ lead a = merged-high (lead a) (lead b) (lead b) refl in
    record {
      least = λ k h. elim (cases_eq (lead k) (lead b)) [
        | inl e ↦ omega (arith, merged-high (lead a) (lead b) (lead k) e, m.least k h, less, e)
        | inr ne ↦ omega (arith, merged-other (lead a) (lead b) (lead k) ne, m.least k h)
      ];
      along = λ k h. elim (cases_eq k a) [
        | inl is_a ↦ ap (λ i. merged (lead a) (lead b) (lead (g i))) is_a ∙ ap (λ i. merged (lead a) (lead b) (lead i)) x.at_first ∙ ap (merged (lead a) (lead b)) (m.along b w.second)
            ∙ at_b ∙ sym at_a ∙ ap (λ i. merged (lead a) (lead b) (lead i)) (sym is_a)
        | inr na ↦ elim (cases_eq k b) [
          | inl is_b ↦ ap (λ i. merged (lead a) (lead b) (lead (g i))) is_b ∙ ap (λ i. merged (lead a) (lead b) (lead i)) x.at_second ∙ ap (merged (lead a) (lead b)) (m.along a w.first)
              ∙ at_a ∙ sym at_b ∙ ap (λ i. merged (lead a) (lead b) (lead i)) (sym is_b)
          | inr nb ↦ ap (λ i. merged (lead a) (lead b) (lead i)) (x.elsewhere k h na nb) ∙ ap (merged (lead a) (lead b)) (m.along k h)
        ]
      ];
      joins = λ value kept k h.
          (let before : IsKeptBelow n f value = kept_before n f g a b lead value w kept in
          let one : value a ≡ value b = joined n f g a b lead value w kept in
          let at_leader : value (lead k) ≡ value k = m.joins value before k h in
          elim (cases_eq (lead k) (lead b)) [
            | inl e ↦ ap value (merged-high (lead a) (lead b) (lead k) e) ∙ m.joins value before a w.first ∙ one ∙ sym (m.joins value before b w.second) ∙ ap value (sym e) ∙ at_leader
            | inr ne ↦ ap value (merged-other (lead a) (lead b) (lead k) ne) ∙ at_leader
          ]);
    }

-- a number is least in its cycle after the exchange where it was so before, and isn't the greater of the two leaders
least_after : (l k low high m : ℕ) → l ≤ k → low < high → (l ≡ high → m ≡ low) → ((l ≡ high → ⊥) → m ≡ l) → (eqb l k && not (eqb k high)) ≡ eqb m k
least_after l k low high m h less at_high at_other = elim (cases_eq l high) [
  | inl e ↦ is_high l k low high m h less e (at_high e)
  | inr ne ↦ is_other l k high m ne (at_other ne)
] where
  is_high : (l k low high m : ℕ) → l ≤ k → low < high → l ≡ high → m ≡ low → (eqb l k && not (eqb k high)) ≡ eqb m k
  is_high l k low high m h less e e' = grind arith

  is_other : (l k high m : ℕ) → (l ≡ high → ⊥) → m ≡ l → (eqb l k && not (eqb k high)) ≡ eqb m k
  is_other l k high m ne e = grind arith

-- what the exchange of two values in different cycles makes
pub record IsMerged (n : ℕ) (f g : ℕ → ℕ) (a b : ℕ) : Type 0 where
  pub fewer : cycles n g + 1 ≡ cycles n f
  pub one_cycle : leader n g a ≡ leader n g b

counts_one : (l k : ℕ) → l ≡ k → 0 + cond (eqb l k) 1 0 ≡ 0 + 1
counts_one l k e = grind arith

merged_less : (n : ℕ) (f g : ℕ → ℕ) (a b : ℕ) → Apart n f g a b (leader n f) → leader n f a < leader n f b → IsMerged n f g a b
merged_less n f g a b w less =
    let lead : ℕ → ℕ = leader n f in
    let low : ℕ = leader n f a in
    let high : ℕ = leader n f b in
    let m : IsLeaderMap n f (leader n f) = w.leads in
    let m' : IsLeaderMap n g (λ k. merged low high (leader n f k)) = merged-map n f g a b (leader n f) w less in
    let p' : IsPermutationBelow n g = exchange-permutes n f g a b w.permutes w.first w.second w.exchanged in
    let count_after : cycles n g ≡ count_below (λ k. eqb (merged low high (leader n f k)) k) n = cycles-count n g (λ k. merged low high (leader n f k)) p' m' in
    let without : cycles n f ≡ count_below (λ k. eqb (leader n f k) k && not (eqb k high)) n + cond (eqb (leader n f high) high) 1 0 =
    count_below-without (λ k. eqb (leader n f k) k) high n (leader_map-inside n f (leader n f) m b w.second) in
    let at_high : 0 + cond (eqb (leader n f high) high) 1 0 ≡ 0 + 1 = counts_one (leader n f high) high (leader_map-twice n f (leader n f) m b w.second) in
    let pointwise : count_below (λ k. eqb (leader n f k) k && not (eqb k high)) n ≡ count_below (λ k. eqb (merged low high (leader n f k)) k) n =
    count_below-same (λ k. eqb (leader n f k) k && not (eqb k high)) (λ k. eqb (merged low high (leader n f k)) k) n
    (λ k h. least_after (leader n f k) k low high (merged low high (leader n f k)) (m.least k h) less (merged-high low high (leader n f k)) (merged-other low high (leader n f k))) in
    let agree_a : merged low high (leader n f a) ≡ leader n g a = leader_maps-agree n g (λ k. merged low high (leader n f k)) (leader n g) m' (leader-map n g p') a w.first in
    let agree_b : merged low high (leader n f b) ≡ leader n g b = leader_maps-agree n g (λ k. merged low high (leader n f k)) (leader n g) m' (leader-map n g p') b w.second in
    record {
      fewer = omega (arith, count_after, without, at_high, pointwise);
      one_cycle = sym agree_a ∙ merged-other low high (leader n f a) w.apart ∙ sym (merged-high low high (leader n f b) refl) ∙ agree_b;
    }

-- the exchange of two values in different cycles makes one of the two cycles
pub exchange-merges : (n : ℕ) (f g : ℕ → ℕ) (a b : ℕ) → IsPermutationBelow n f → a < n → b < n → IsExchangeBelow n f g a b
    → (leader n f a ≡ leader n f b → ⊥) → IsMerged n f g a b
exchange-merges n f g a b p ha hb x apart = elim (cases_order (leader n f a) (leader n f b)) [
  | inl same ↦ absurd (apart same)
  | inr differ ↦ elim differ [
    | inl less ↦ merged_less n f g a b (record { permutes = p; first = ha; second = hb; exchanged = x; leads = leader-map n f p; apart = apart }) less
    | inr more ↦
        let turned_over : IsMerged n f g b a = merged_less n f g b a
        (record { permutes = p; first = hb; second = ha; exchanged = exchange-turned n f g a b x; leads = leader-map n f p; apart = λ e. apart (sym e) }) more in
        record { fewer = turned_over.fewer; one_cycle = sym turned_over.one_cycle }
  ]
]
