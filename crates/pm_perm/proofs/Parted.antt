-- The exchange of two values in one cycle makes two of it.
use Rattle.std.proofs.Common.{◌≡◌, ℕ, zero, suc, ◌+◌, ◌-◌, ◌<◌, ◌≤◌, ◌⊎◌, inl, inr, cond, eqb, sym, ap, ◌∙◌, refl, eq-eqb, ne_eqb, arith}
use Rattle.std.proofs.lemmas.Bool.{cases_eq, cond-true, cond-false}
use Rattle.pm_perm.specs.Permutation.{IsPermutationBelow}
use Rattle.pm_perm.specs.Cycles.{repeated, leader, cycles, IsInCycle}
use Rattle.pm_perm.specs.Exchange.{IsExchangeBelow}
use Rattle.pm_perm.proofs.Permutations.{reached_or_not}
use Rattle.pm_perm.proofs.Repeats.{repeated-inside, repeated-add}
use Rattle.pm_perm.proofs.LeaderMaps.{IsKeptBelow, IsLeaderMap, leader-map}
use Rattle.pm_perm.proofs.SameCycle.{leader-in_cycle, cycles-same}
use Rattle.pm_perm.proofs.Merged.{exchange-back, exchange-permutes, IsMerged, exchange-merges}

-- the least number below n with this value
pub record IsFirstAt (f : ℕ → ℕ) (n y : ℕ) : Type 0 where
  pub at : ℕ
  pub within : at < n
  pub value : f at ≡ y
  pub before : (k : ℕ) → k < at → f k ≡ y → ⊥

pub first_or_none : (f : ℕ → ℕ) (n y : ℕ) → IsFirstAt f n y ⊎ ((k : ℕ) → k < n → f k ≡ y → ⊥)
first_or_none f zero y = inr (λ k h e. absurd (omega (arith, h)))
first_or_none f (suc n) y = elim (first_or_none f n y) [
  | inl first ↦ inl (record { at = first.at; within = omega (arith, first.within); value = first.value; before = first.before })
  | inr none ↦ elim (cases_eq (f n) y) [
    | inl here ↦ inl (record { at = n; within = omega arith; value = here; before = none })
    | inr other ↦ inr (λ k h e. elim (cases_eq k n) [
      | inl last ↦ other (sym (ap f last) ∙ e)
      | inr less ↦ none k (omega (arith, less)) e
    ])
  ]
]

-- 1 where x is a value below n, else 0
seen : (ℕ → ℕ) → ℕ → ℕ → ℕ
seen f zero x = 0
seen f (suc n) x = cond (eqb (f n) x) 1 (seen f n x)

seen-in : (f : ℕ → ℕ) (n x i : ℕ) → i < n → f i ≡ x → seen f n x ≡ 1
unfolding seen
seen-in f zero x i h e = absurd (omega arith)
seen-in f (suc n) x i h e = elim (cases_eq (f n) x) [
  | inl here ↦ cond-true (eqb (f n) x) 1 (seen f n x) (eq-eqb (f n) x here)
  | inr other ↦ cond-false (eqb (f n) x) 1 (seen f n x) (ne_eqb (f n) x other)
      ∙ seen-in f n x i (elim (cases_eq i n) [ inl last ↦ absurd (other (sym (ap f last) ∙ e)) | inr less ↦ omega (arith, less) ]) e
]

seen-out : (f : ℕ → ℕ) (n x : ℕ) → ((i : ℕ) → i < n → f i ≡ x → ⊥) → seen f n x ≡ 0
unfolding seen
seen-out f zero x none = refl
seen-out f (suc n) x none =
    cond-false (eqb (f n) x) 1 (seen f n x) (ne_eqb (f n) x (none n (omega arith))) ∙ seen-out f n x (λ i h. none i (omega arith))

-- the way from a to b: b is met after suc last steps, and not before
record Way (n : ℕ) (f g : ℕ → ℕ) (a b : ℕ) : Type 0 where
  permutes : IsPermutationBelow n f
  first : a < n
  second : b < n
  exchanged : IsExchangeBelow n f g a b
  differ : a ≡ b → ⊥
  last : ℕ
  arrives : repeated f (suc last) a ≡ b
  before : (k : ℕ) → k < last → repeated f (suc k) a ≡ b → ⊥

way : (n : ℕ) (f g : ℕ → ℕ) (a b : ℕ) → IsPermutationBelow n f → a < n → b < n → IsExchangeBelow n f g a b → (a ≡ b → ⊥) → IsInCycle f a b → Way n f g a b
way n f g a b p ha hb x differ c = elim (first_or_none (λ k. repeated f (suc k) a) c.steps b) [
  | inl found ↦ record { permutes = p; first = ha; second = hb; exchanged = x; differ = differ; last = found.at; arrives = found.value; before = found.before }
  | inr none ↦ elim (cases_eq c.steps 0) [
    | inl start ↦ absurd (differ (sym (ap (λ i. repeated f i a) start) ∙ c.leads))
    | inr later ↦
        let sum : suc (c.steps - 1) ≡ c.steps = omega (arith, later) in
        absurd (none (c.steps - 1) (omega (arith, later)) (ap (λ i. repeated f i a) sum ∙ c.leads))
  ]
]

-- the way doesn't come back to a
no_return : (n : ℕ) (f g : ℕ → ℕ) (a b : ℕ) (w : Way n f g a b) (i : ℕ) → i < suc w.last → repeated f (suc i) a ≡ a → ⊥
no_return n f g a b w i h e = elim (cases_eq i w.last) [
  | inl end ↦ w.differ (sym e ∙ ap (λ k. repeated f (suc k) a) end ∙ w.arrives)
  | inr inner ↦
      let rest : ℕ = w.last - suc i in
      let sum : suc rest + suc i ≡ suc w.last = omega (arith, h, inner) in
      w.before rest (omega (arith, h, inner))
      (ap (λ y. repeated f (suc rest) y) (sym e) ∙ repeated-add f (suc rest) (suc i) a ∙ ap (λ k. repeated f k a) sum ∙ w.arrives)
]

-- whether a number is on the way is kept along g
on_way : (n : ℕ) (f g : ℕ → ℕ) (a b : ℕ) → Way n f g a b → ℕ → ℕ
on_way n f g a b w x = seen (λ k. repeated f (suc k) a) (suc w.last) x

way_kept_in : (n : ℕ) (f g : ℕ → ℕ) (a b : ℕ) (w : Way n f g a b) (k i : ℕ) → k < n → i < suc w.last → repeated f (suc i) a ≡ k → on_way n f g a b w (g k) ≡ on_way n f g a b w k
unfolding on_way
way_kept_in n f g a b w k i h hi e =
    let x : IsExchangeBelow n f g a b = w.exchanged in
    let h' : ℕ → ℕ = λ j. repeated f (suc j) a in
    let here : seen h' (suc w.last) k ≡ 1 = seen-in h' (suc w.last) k i hi e in
    elim (cases_eq k b) [
      | inl is_b ↦
          let to_start : h' 0 ≡ g k = sym (ap g is_b ∙ x.at_second) in
          seen-in h' (suc w.last) (g k) 0 (omega arith) to_start ∙ sym here
      | inr nb ↦
          let inner : i < w.last = elim (cases_eq i w.last) [ inl end ↦ absurd (nb (sym e ∙ ap h' end ∙ w.arrives)) | inr less ↦ omega (arith, hi, less) ] in
          let na : k ≡ a → ⊥ = λ is_a. no_return n f g a b w i hi (e ∙ is_a) in
          let onward : h' (suc i) ≡ g k = ap f e ∙ sym (x.elsewhere k h na nb) in
          seen-in h' (suc w.last) (g k) (suc i) (omega (arith, inner)) onward ∙ sym here
    ]

way_kept_out : (n : ℕ) (f g : ℕ → ℕ) (a b : ℕ) (w : Way n f g a b) (k : ℕ) → k < n
    → ((i : ℕ) → i < suc w.last → repeated f (suc i) a ≡ k → ⊥) → on_way n f g a b w (g k) ≡ on_way n f g a b w k
unfolding on_way
way_kept_out n f g a b w k h none =
    let x : IsExchangeBelow n f g a b = w.exchanged in
    let p : IsPermutationBelow n f = w.permutes in
    let h' : ℕ → ℕ = λ j. repeated f (suc j) a in
    let nb : k ≡ b → ⊥ = λ is_b. none w.last (omega arith) (w.arrives ∙ sym is_b) in
    let miss : (j : ℕ) → j < suc w.last → h' j ≡ g k → ⊥ = λ j hj e. elim (cases_eq k a) [
      | inl is_a ↦
          let at_b : repeated f j a ≡ b = p.injective (repeated f j a) b (repeated-inside f n p j a w.first) w.second (e ∙ ap g is_a ∙ x.at_first) in
          elim (cases_eq j 0) [
            | inl start ↦ w.differ (sym (ap (λ i. repeated f i a) start) ∙ at_b)
            | inr later ↦
                let sum : j ≡ suc (j - 1) = omega (arith, later) in
                w.before (j - 1) (omega (arith, later, hj)) (sym (ap (λ i. repeated f i a) sum) ∙ at_b)
          ]
      | inr na ↦
          let at_k : repeated f j a ≡ k = p.injective (repeated f j a) k (repeated-inside f n p j a w.first) h (e ∙ x.elsewhere k h na nb) in
          elim (cases_eq j 0) [
            | inl start ↦ na (sym (sym (ap (λ i. repeated f i a) start) ∙ at_k))
            | inr later ↦
                let sum : j ≡ suc (j - 1) = omega (arith, later) in
                none (j - 1) (omega (arith, later, hj)) (sym (ap (λ i. repeated f i a) sum) ∙ at_k)
          ]
    ] in
    seen-out h' (suc w.last) (g k) miss ∙ sym (seen-out h' (suc w.last) k none)

way_kept : (n : ℕ) (f g : ℕ → ℕ) (a b : ℕ) (w : Way n f g a b) → IsKeptBelow n g (on_way n f g a b w)
way_kept n f g a b w = record {
  along = λ k h. elim (reached_or_not (λ i. repeated f (suc i) a) (suc w.last) k) [
    | inl r ↦ way_kept_in n f g a b w k r.from h r.below r.value
    | inr none ↦ way_kept_out n f g a b w k h none
  ];
}

way_tells : (n : ℕ) (f g : ℕ → ℕ) (a b : ℕ) (w : Way n f g a b) → on_way n f g a b w a ≡ on_way n f g a b w b → ⊥
unfolding on_way
way_tells n f g a b w e =
    let h' : ℕ → ℕ = λ j. repeated f (suc j) a in
    let out : seen h' (suc w.last) a ≡ 0 = seen-out h' (suc w.last) a (no_return n f g a b w) in
    let within : seen h' (suc w.last) b ≡ 1 = seen-in h' (suc w.last) b w.last (omega arith) w.arrives in
    omega (arith, e, out, within)

-- the exchange of two values in one cycle puts them into different cycles
pub exchange-parts : (n : ℕ) (f g : ℕ → ℕ) (a b : ℕ) → IsPermutationBelow n f → a < n → b < n → IsExchangeBelow n f g a b
    → (a ≡ b → ⊥) → leader n f a ≡ leader n f b → leader n g a ≡ leader n g b → ⊥
exchange-parts n f g a b p ha hb x differ one same =
    let w : Way n f g a b = way n f g a b p ha hb x differ (leader-in_cycle n f p a b ha hb one) in
    let kept : IsKeptBelow n g (on_way n f g a b w) = way_kept n f g a b w in
    let m : IsLeaderMap n g (leader n g) = leader-map n g (exchange-permutes n f g a b p ha hb x) in
    way_tells n f g a b w (sym (m.joins (on_way n f g a b w) kept a ha) ∙ ap (on_way n f g a b w) same ∙ m.joins (on_way n f g a b w) kept b hb)

-- The law of exchange: the cycles after the exchange, and two more where the two numbers were in different cycles, are
-- the cycles before and one more; where the two numbers are one, nothing changes.
pub cycles-exchange : (n : ℕ) (f g : ℕ → ℕ) (a b : ℕ) → IsPermutationBelow n f → a < n → b < n → IsExchangeBelow n f g a b
    → cycles n g + cond (eqb (leader n f a) (leader n f b)) 0 2 ≡ cycles n f + cond (eqb a b) 0 1
cycles-exchange n f g a b p ha hb x = elim (cases_eq a b) [
  | inl one ↦ one_number (cycles n f) (cycles n g) (leader n f a) (leader n f b) a b one (ap (leader n f) one) (cycles-same n f g p (λ k h. unchanged n f g a b x one k h))
  | inr differ ↦ elim (cases_eq (leader n f a) (leader n f b)) [
    | inl same ↦
        let p' : IsPermutationBelow n g = exchange-permutes n f g a b p ha hb x in
        let back : IsMerged n g f a b = exchange-merges n g f a b p' ha hb (exchange-back n f g a b x) (exchange-parts n f g a b p ha hb x differ same) in
        one_cycle (cycles n f) (cycles n g) (leader n f a) (leader n f b) a b differ same back.fewer
    | inr apart ↦
        let fewer : IsMerged n f g a b = exchange-merges n f g a b p ha hb x apart in
        two_cycles (cycles n f) (cycles n g) (leader n f a) (leader n f b) a b differ apart fewer.fewer
  ]
] where
  unchanged : (n : ℕ) (f g : ℕ → ℕ) (a b : ℕ) → IsExchangeBelow n f g a b → a ≡ b → (k : ℕ) → k < n → f k ≡ g k
  unchanged n f g a b x one k h = elim (cases_eq k a) [
    | inl is_a ↦ ap f (is_a ∙ one) ∙ sym x.at_first ∙ sym (ap g is_a)
    | inr na ↦ sym (x.elsewhere k h na (λ is_b. na (is_b ∙ sym one)))
  ]

  one_number : (c c' l l' a b : ℕ) → a ≡ b → l ≡ l' → c ≡ c' → c' + cond (eqb l l') 0 2 ≡ c + cond (eqb a b) 0 1
  one_number c c' l l' a b e e' same = grind arith

  one_cycle : (c c' l l' a b : ℕ) → (a ≡ b → ⊥) → l ≡ l' → c + 1 ≡ c' → c' + cond (eqb l l') 0 2 ≡ c + cond (eqb a b) 0 1
  one_cycle c c' l l' a b e e' more = grind arith

  two_cycles : (c c' l l' a b : ℕ) → (a ≡ b → ⊥) → (l ≡ l' → ⊥) → c' + 1 ≡ c → c' + cond (eqb l l') 0 2 ≡ c + cond (eqb a b) 0 1
  two_cycles c c' l l' a b e e' fewer = grind arith

-- an exchange makes at most one more cycle
pub cycles-at_most : (n : ℕ) (f g : ℕ → ℕ) (a b : ℕ) → IsPermutationBelow n f → a < n → b < n → IsExchangeBelow n f g a b → cycles n g ≤ cycles n f + 1
cycles-at_most n f g a b p ha hb x = at_most (cycles n f) (cycles n g) (leader n f a) (leader n f b) a b (cycles-exchange n f g a b p ha hb x) where
  at_most : (c c' l l' a b : ℕ) → c' + cond (eqb l l') 0 2 ≡ c + cond (eqb a b) 0 1 → c' ≤ c + 1
  at_most c c' l l' a b e = grind arith

-- the same of two different numbers
pub cycles-exchange_apart : (n : ℕ) (f g : ℕ → ℕ) (a b : ℕ) → IsPermutationBelow n f → a < n → b < n → IsExchangeBelow n f g a b → (a ≡ b → ⊥)
    → cycles n g + cond (eqb (leader n f a) (leader n f b)) 0 2 ≡ cycles n f + 1
cycles-exchange_apart n f g a b p ha hb x differ = apart (cycles n f) (cycles n g) (leader n f a) (leader n f b) a b differ (cycles-exchange n f g a b p ha hb x) where
  apart : (c c' l l' a b : ℕ) → (a ≡ b → ⊥) → c' + cond (eqb l l') 0 2 ≡ c + cond (eqb a b) 0 1 → c' + cond (eqb l l') 0 2 ≡ c + 1
  apart c c' l l' a b ne e = grind arith
