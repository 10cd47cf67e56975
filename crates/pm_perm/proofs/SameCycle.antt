-- Two numbers are in one cycle of a permutation exactly where they have one leader; the cycle is the same from each of
-- its numbers.
use Rattle.std.proofs.Common.{◌≡◌, ℕ, zero, suc, ◌+◌, ◌*◌, ◌/◌, ◌%◌, ◌<◌, ◌↔◌, sym, ap, ◌∙◌, refl, arith}
use Rattle.pm_perm.specs.Permutation.{IsPermutationBelow}
use Rattle.pm_perm.specs.Cycles.{repeated, leader, cycles, IsInCycle, IsLeastInCycle}
use Rattle.pm_perm.proofs.Permutations.{IsReached}
use Rattle.pm_perm.proofs.Repeats.{repeated-inside, repeated-first, repeated-add, rounds, HasPeriod, period}
use Rattle.pm_perm.proofs.LeaderMaps.{IsLeaderMap, repeated-kept, leader-map, leader_maps-agree, cycles-count, leader-is_least}

-- what is met from what is met
pub in_cycle-through : (f : ℕ → ℕ) (a b c : ℕ) → IsInCycle f a b → IsInCycle f b c → IsInCycle f a c
in_cycle-through f a b c ab bc = record {
  steps = bc.steps + ab.steps;
  leads = sym (repeated-add f bc.steps ab.steps a) ∙ ap (λ x. repeated f bc.steps x) ab.leads ∙ bc.leads;
}

-- from what is met after some steps there is a way back
steps_back : (n : ℕ) (f : ℕ → ℕ) → IsPermutationBelow n f → (k d : ℕ) → d < n → IsInCycle f (repeated f k d) d
steps_back n f p zero d h = record { steps = 0; leads = refl }
steps_back n f p (suc k) d h =
    let x : ℕ = repeated f k d in
    let inside : x < n = repeated-inside f n p k d h in
    let round : HasPeriod f n x = period f n x p inside in
    in_cycle-through f (f x) x d (record { steps = round.fewer; leads = repeated-first f round.fewer x ∙ round.returns }) (steps_back n f p k d h)

pub in_cycle-back : (n : ℕ) (f : ℕ → ℕ) → IsPermutationBelow n f → (a b : ℕ) → a < n → IsInCycle f a b → IsInCycle f b a
in_cycle-back n f p a b h c =
    let back : IsInCycle f (repeated f c.steps a) a = steps_back n f p c.steps a h in
    record { steps = back.steps; leads = ap (λ x. repeated f back.steps x) (sym c.leads) ∙ back.leads }

-- what is met by repeating a permutation below a bound is met in fewer steps than the bound
pub in_cycle-reached : (n : ℕ) (f : ℕ → ℕ) (d e : ℕ) → IsPermutationBelow n f → d < n → IsInCycle f d e → IsReached (λ k. repeated f k d) n e
in_cycle-reached n f d e p h met =
    let round : HasPeriod f n d = period f n d p h in
    let size : ℕ = suc round.fewer in
    let within : round.fewer < n = round.within in
    let whole : met.steps ≡ met.steps % size + met.steps / size * size = omega arith in
    let less : met.steps % size < size = omega arith in
    record {
      from = met.steps % size;
      below = omega (arith, less, within);
      value = sym (rounds f d size round.returns (met.steps / size) (met.steps % size)) ∙ ap (λ k. repeated f k d) (sym whole) ∙ met.leads;
    }

-- what is met has the same leader
pub in_cycle-leader : (n : ℕ) (f : ℕ → ℕ) → IsPermutationBelow n f → (a b : ℕ) → a < n → IsInCycle f a b → leader n f a ≡ leader n f b
in_cycle-leader n f p a b h c =
    let m : IsLeaderMap n f (leader n f) = leader-map n f p in
    sym (repeated-kept n f (leader n f) p (record { along = m.along }) c.steps a h) ∙ ap (leader n f) c.leads

-- what has the same leader is met
pub leader-in_cycle : (n : ℕ) (f : ℕ → ℕ) → IsPermutationBelow n f → (a b : ℕ) → a < n → b < n → leader n f a ≡ leader n f b → IsInCycle f a b
leader-in_cycle n f p a b ha hb e =
    let from_a : IsLeastInCycle f a (leader n f a) = leader-is_least n f p a ha in
    let from_b : IsLeastInCycle f b (leader n f b) = leader-is_least n f p b hb in
    let met : IsInCycle f a (leader n f a) = from_a.met in
    let here : IsInCycle f a (leader n f b) = record { steps = met.steps; leads = met.leads ∙ e } in
    in_cycle-through f a (leader n f b) b here (in_cycle-back n f p b (leader n f b) hb from_b.met)

pub in_cycle-iff_leader : (n : ℕ) (f : ℕ → ℕ) → IsPermutationBelow n f → (a b : ℕ) → a < n → b < n → IsInCycle f a b ↔ (leader n f a ≡ leader n f b)
in_cycle-iff_leader n f p a b ha hb = (in_cycle-leader n f p a b ha, leader-in_cycle n f p a b ha hb)

-- functions that agree below the size have one leader map, and as many cycles
pub leader_map-same : (n : ℕ) (f g lead : ℕ → ℕ) → ((k : ℕ) → k < n → f k ≡ g k) → IsLeaderMap n f lead → IsLeaderMap n g lead
leader_map-same n f g lead same m = record {
  least = m.least;
  along = λ k h. ap lead (sym (same k h)) ∙ m.along k h;
  joins = λ value kept k h. m.joins value (record { along = λ i hi. ap value (same i hi) ∙ kept.along i hi }) k h;
}

pub permutation-same : (n : ℕ) (f g : ℕ → ℕ) → ((k : ℕ) → k < n → f k ≡ g k) → IsPermutationBelow n f → IsPermutationBelow n g
permutation-same n f g same p = record {
  stays = λ k h. let inside : f k < n = p.stays k h in let e : f k ≡ g k = same k h in omega (arith, inside, e);
  injective = λ j k hj hk e. p.injective j k hj hk (same j hj ∙ e ∙ sym (same k hk));
}

pub leader-same : (n : ℕ) (f g : ℕ → ℕ) → IsPermutationBelow n f → ((k : ℕ) → k < n → f k ≡ g k) → (d : ℕ) → d < n → leader n f d ≡ leader n g d
leader-same n f g p same d h =
    leader_maps-agree n g (leader n f) (leader n g) (leader_map-same n f g (leader n f) same (leader-map n f p)) (leader-map n g (permutation-same n f g same p)) d h

pub cycles-same : (n : ℕ) (f g : ℕ → ℕ) → IsPermutationBelow n f → ((k : ℕ) → k < n → f k ≡ g k) → cycles n f ≡ cycles n g
cycles-same n f g p same =
    sym (cycles-count n g (leader n f) (permutation-same n f g same p) (leader_map-same n f g (leader n f) same (leader-map n f p)))
