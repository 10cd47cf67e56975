-- Leader maps: to know the cycles of a permutation, and how many there are, it is enough to give a map that takes each
-- number to one of its cycle, along the cycle the same, and not above it.
use Rattle.std.proofs.Common.{◌≡◌, ℕ, zero, suc, ◌+◌, ◌-◌, ◌<◌, ◌≤◌, inl, inr, eqb, sym, ap, ◌∙◌, refl, arith}
use Rattle.std.proofs.lemmas.Bool.{cases_eq}
use Rattle.pm_perm.specs.Count.{count_below}
use Rattle.pm_perm.specs.Permutation.{IsPermutationBelow}
use Rattle.pm_perm.specs.Cycles.{repeated, least_met, leader, cycles, IsInCycle, IsLeastInCycle}
use Rattle.pm_perm.proofs.Counts.{count_below-same}
use Rattle.pm_perm.proofs.Repeats.{repeated-inside, repeated-first, repeated-add, HasPeriod, period, least_met-le, least_met-met, IsMetWithin}

-- the value is the same along f
pub record IsKeptBelow (size : ℕ) (f value : ℕ → ℕ) : Type 0 where
  pub along : (k : ℕ) → k < size → value (f k) ≡ value k

-- a map that takes each number to one number of its cycle
pub record IsLeaderMap (size : ℕ) (f lead : ℕ → ℕ) : Type 0 where
  pub least : (k : ℕ) → k < size → lead k ≤ k
  pub along : (k : ℕ) → k < size → lead (f k) ≡ lead k
  pub joins : (value : ℕ → ℕ) → IsKeptBelow size f value → (k : ℕ) → k < size → value (lead k) ≡ value k

-- what is kept along f is kept by repeating it
pub repeated-kept : (n : ℕ) (f value : ℕ → ℕ) → IsPermutationBelow n f → IsKeptBelow n f value → (k d : ℕ) → d < n → value (repeated f k d) ≡ value d
repeated-kept n f value p kept zero d h = refl
repeated-kept n f value p kept (suc k) d h = kept.along (repeated f k d) (repeated-inside f n p k d h) ∙ repeated-kept n f value p kept k d h

-- the leader is the same along the cycle
leader_down : (n : ℕ) (f : ℕ → ℕ) (d : ℕ) → IsPermutationBelow n f → d < n → leader n f (f d) ≤ leader n f d
unfolding leader
leader_down n f d p h =
    let met : IsMetWithin f d n (least_met f n d) = least_met-met f n d in
    let round : HasPeriod f n d = period f n d p h in
    elim (cases_eq met.after 0) [
      | inl start ↦
          let here : repeated f round.fewer (f d) ≡ least_met f n d =
          repeated-first f round.fewer d ∙ round.returns ∙ (sym (ap (λ i. repeated f i d) start) ∙ met.leads) in
          let bound : least_met f n (f d) ≤ repeated f round.fewer (f d) = least_met-le f n round.fewer (f d) (omega (arith, round.within)) in
          omega (arith, here, bound)
      | inr later ↦
          let sum : suc (met.after - 1) ≡ met.after = omega (arith, later) in
          let here : repeated f (met.after - 1) (f d) ≡ least_met f n d =
          repeated-first f (met.after - 1) d ∙ ap (λ i. repeated f i d) sum ∙ met.leads in
          let bound : least_met f n (f d) ≤ repeated f (met.after - 1) (f d) = least_met-le f n (met.after - 1) (f d) (omega (arith, met.within)) in
          omega (arith, here, bound)
    ]

leader_up : (n : ℕ) (f : ℕ → ℕ) (d : ℕ) → IsPermutationBelow n f → d < n → leader n f d ≤ leader n f (f d)
unfolding leader
leader_up n f d p h =
    let met : IsMetWithin f (f d) n (least_met f n (f d)) = least_met-met f n (f d) in
    let round : HasPeriod f n d = period f n d p h in
    let reaches : repeated f (suc met.after) d ≡ least_met f n (f d) = sym (repeated-first f met.after d) ∙ met.leads in
    elim (cases_eq met.after n) [
      | inl last ↦
          let rest : ℕ = suc met.after - suc round.fewer in
          let sum : rest + suc round.fewer ≡ suc met.after = omega (arith, last, round.within) in
          let here : repeated f rest d ≡ least_met f n (f d) =
          ap (λ x. repeated f rest x) (sym round.returns) ∙ repeated-add f rest (suc round.fewer) d ∙ ap (λ i. repeated f i d) sum ∙ reaches in
          let bound : least_met f n d ≤ repeated f rest d = least_met-le f n rest d (omega (arith, last, round.within)) in
          omega (arith, here, bound)
      | inr before ↦
          let bound : least_met f n d ≤ repeated f (suc met.after) d = least_met-le f n (suc met.after) d (omega (arith, before, met.within)) in
          omega (arith, reaches, bound)
    ]

leader_least : (n : ℕ) (f : ℕ → ℕ) (d : ℕ) → leader n f d ≤ d
unfolding leader
leader_least n f d = least_met-le f n 0 d (omega arith)

leader_joins : (n : ℕ) (f value : ℕ → ℕ) (d : ℕ) → IsPermutationBelow n f → IsKeptBelow n f value → d < n → value (leader n f d) ≡ value d
unfolding leader
leader_joins n f value d p kept h =
    let met : IsMetWithin f d n (least_met f n d) = least_met-met f n d in
    sym (ap value met.leads) ∙ repeated-kept n f value p kept met.after d h

-- leaders are a leader map
pub leader-map : (n : ℕ) (f : ℕ → ℕ) → IsPermutationBelow n f → IsLeaderMap n f (leader n f)
leader-map n f p = record {
  least = λ d h. leader_least n f d;
  along = λ d h. let up : leader n f d ≤ leader n f (f d) = leader_up n f d p h in let down : leader n f (f d) ≤ leader n f d = leader_down n f d p h in omega (arith, up, down);
  joins = λ value kept d h. leader_joins n f value d p kept h;
}

-- two leader maps agree
pub leader_maps-agree : (n : ℕ) (f one other : ℕ → ℕ) → IsLeaderMap n f one → IsLeaderMap n f other → (d : ℕ) → d < n → one d ≡ other d
leader_maps-agree n f one other m m' d h =
    let under : one d ≤ other d = half n f one other m m' d h in
    let over : other d ≤ one d = half n f other one m' m d h in
    omega (arith, under, over) where
      half : (n : ℕ) (f one other : ℕ → ℕ) → IsLeaderMap n f one → IsLeaderMap n f other → (d : ℕ) → d < n → one d ≤ other d
      half n f one other m m' d h =
          let joined : one (other d) ≡ one d = m'.joins one (record { along = m.along }) d h in
          let inside : other d ≤ d = m'.least d h in
          let low : one (other d) ≤ other d = m.least (other d) (omega (arith, inside)) in
          omega (arith, joined, low)

-- a leader map's values are below the size, and it takes a leader to itself
pub leader_map-inside : (n : ℕ) (f lead : ℕ → ℕ) → IsLeaderMap n f lead → (d : ℕ) → d < n → lead d < n
leader_map-inside n f lead m d h = let low : lead d ≤ d = m.least d h in omega (arith, low)

pub leader_map-twice : (n : ℕ) (f lead : ℕ → ℕ) → IsLeaderMap n f lead → (d : ℕ) → d < n → lead (lead d) ≡ lead d
leader_map-twice n f lead m d h = m.joins lead (record { along = m.along }) d h

-- the cycles are counted by any leader map
pub cycles-count : (n : ℕ) (f lead : ℕ → ℕ) → IsPermutationBelow n f → IsLeaderMap n f lead → cycles n f ≡ count_below (λ d. eqb (lead d) d) n
cycles-count n f lead p m =
    count_below-same (λ d. eqb (leader n f d) d) (λ d. eqb (lead d) d) n (λ d h. ap (λ x. eqb x d) (leader_maps-agree n f (leader n f) lead (leader-map n f p) m d h))

leader_met : (n : ℕ) (f : ℕ → ℕ) (d : ℕ) → IsInCycle f d (leader n f d)
unfolding leader
leader_met n f d = let met : IsMetWithin f d n (least_met f n d) = least_met-met f n d in record { steps = met.after; leads = met.leads }

-- the leader is the least number of the cycle
pub leader-is_least : (n : ℕ) (f : ℕ → ℕ) → IsPermutationBelow n f → (d : ℕ) → d < n → IsLeastInCycle f d (leader n f d)
leader-is_least n f p d h =
    record { met = leader_met n f d; least = λ e c. least n f p d e h c } where
      least : (n : ℕ) (f : ℕ → ℕ) → IsPermutationBelow n f → (d e : ℕ) → d < n → IsInCycle f d e → leader n f d ≤ e
      least n f p d e h c =
          let m : IsLeaderMap n f (leader n f) = leader-map n f p in
          let same : leader n f (repeated f c.steps d) ≡ leader n f d = repeated-kept n f (leader n f) p (record { along = m.along }) c.steps d h in
          let low : leader n f (repeated f c.steps d) ≤ repeated f c.steps d = m.least (repeated f c.steps d) (repeated-inside f n p c.steps d h) in
          omega (arith, same, low, c.leads)
