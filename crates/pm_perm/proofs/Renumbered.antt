-- What keeps the number of cycles: renumbering, the product in the other order, the inverse. The ring has one cycle.
use Rattle.std.proofs.Common.{◌%◌, ◌≡◌, ℕ, zero, suc, ◌<◌, ◌≤◌, inl, inr, eqb, sym, ap, ◌∙◌, refl, eq-eqb, arith}
use Rattle.std.proofs.Math.Nat.{mod-eq_of_lt, mod_self}
use Rattle.std.proofs.lemmas.Bool.{cases_eq, eqb-true}
use Rattle.pm_perm.specs.Permutation.{IsPermutationBelow}
use Rattle.pm_perm.specs.Cycles.{leader, cycles}
use Rattle.pm_perm.specs.Exchange.{IsProductBelow}
use Rattle.pm_perm.specs.Pairs.{IsRingBelow}
use Rattle.pm_perm.proofs.Counts.{count_below-into, count_below-zero}
use Rattle.pm_perm.proofs.InverseLemmas.{place_of, place_of-permutes, value-place_of, place_of-of_value}
use Rattle.pm_perm.proofs.LeaderMaps.{IsKeptBelow, IsLeaderMap, leader-map, leader_maps-agree, leader_map-inside, leader_map-twice, cycles-count}

-- p carries f to g: what follows d under f goes to what follows p d under g
pub record IsRenumbered (n : ℕ) (p f g : ℕ → ℕ) : Type 0 where
  pub permutes : IsPermutationBelow n p
  pub carries : (k : ℕ) → k < n → p (f k) ≡ g (p k)

-- the inverse renumbering carries back
pub renumbered-back : (n : ℕ) (p f g : ℕ → ℕ) → IsPermutationBelow n f → IsRenumbered n p f g → IsRenumbered n (place_of p n) g f
renumbered-back n p f g pf r = record {
  permutes = place_of-permutes p n r.permutes;
  carries = λ k h.
      (let q : IsPermutationBelow n (place_of p n) = place_of-permutes p n r.permutes in
      let from : ℕ = place_of p n k in
      let inside : from < n = q.stays k h in
      let there : p (f from) ≡ g k = r.carries from inside ∙ ap g (value-place_of p n k r.permutes h) in
      ap (place_of p n) (sym there) ∙ place_of-of_value p n (f from) r.permutes (pf.stays from inside));
}

-- after renumbering what is the same for two numbers is the same for those that they become
pub renumbered-leaders : (n : ℕ) (p f g : ℕ → ℕ) → IsPermutationBelow n f → IsPermutationBelow n g → IsRenumbered n p f g
    → (a b : ℕ) → a < n → b < n → leader n f a ≡ leader n f b → leader n g (p a) ≡ leader n g (p b)
renumbered-leaders n p f g pf pg r a b ha hb e =
    let mf : IsLeaderMap n f (leader n f) = leader-map n f pf in
    let mg : IsLeaderMap n g (leader n g) = leader-map n g pg in
    let q : IsPermutationBelow n p = r.permutes in
    let value : ℕ → ℕ = λ k. leader n g (p k) in
    let kept : IsKeptBelow n f value = record { along = λ k h. ap (leader n g) (r.carries k h) ∙ mg.along (p k) (q.stays k h) } in
    sym (mf.joins value kept a ha) ∙ ap value e ∙ mf.joins value kept b hb

cycles_le : (n : ℕ) (p f g : ℕ → ℕ) → IsPermutationBelow n f → IsPermutationBelow n g → IsRenumbered n p f g → cycles n g ≤ cycles n f
cycles_le n p f g pf pg r =
    let mf : IsLeaderMap n f (leader n f) = leader-map n f pf in
    let q : ℕ → ℕ = place_of p n in
    let pq : IsPermutationBelow n (place_of p n) = place_of-permutes p n r.permutes in
    count_below-into (λ k. eqb (leader n g k) k) (λ k. eqb (leader n f k) k) (λ k. leader n f (q k)) n n
    (λ k h _. leader_map-inside n f (leader n f) mf (q k) (pq.stays k h))
    (λ k h _. eq-eqb (leader n f (leader n f (q k))) (leader n f (q k)) (leader_map-twice n f (leader n f) mf (q k) (pq.stays k h)))
    (λ j k hj hk ej ek same.
    (let moved : leader n g (p (q j)) ≡ leader n g (p (q k)) = renumbered-leaders n p f g pf pg r (q j) (q k) (pq.stays j hj) (pq.stays k hk) same in
    sym (eqb-true (leader n g j) j ej) ∙ ap (leader n g) (sym (value-place_of p n j r.permutes hj)) ∙ moved
    ∙ ap (leader n g) (value-place_of p n k r.permutes hk) ∙ eqb-true (leader n g k) k ek))

-- renumbering keeps the number of cycles
pub cycles-renumbered : (n : ℕ) (p f g : ℕ → ℕ) → IsPermutationBelow n f → IsPermutationBelow n g → IsRenumbered n p f g → cycles n f ≡ cycles n g
cycles-renumbered n p f g pf pg r =
    let down : cycles n g ≤ cycles n f = cycles_le n p f g pf pg r in
    let up : cycles n f ≤ cycles n g = cycles_le n (place_of p n) g f pg pf (renumbered-back n p f g pf r) in
    omega (arith, down, up)

-- a product of permutations is one
pub product-permutes : (n : ℕ) (f s t : ℕ → ℕ) → IsPermutationBelow n s → IsPermutationBelow n t → IsProductBelow n f s t → IsPermutationBelow n f
product-permutes n f s t ps pt x = record {
  stays = λ k h. (let inside : s (t k) < n = ps.stays (t k) (pt.stays k h) in let e : f k ≡ s (t k) = x.value k h in omega (arith, inside, e));
  injective = λ j k hj hk e. pt.injective j k hj hk (ps.injective (t j) (t k) (pt.stays j hj) (pt.stays k hk) (sym (x.value j hj) ∙ e ∙ x.value k hk));
}

-- the product in the other order has as many cycles
pub cycles-turned : (n : ℕ) (f g s t : ℕ → ℕ) → IsPermutationBelow n s → IsPermutationBelow n t → IsProductBelow n f s t → IsProductBelow n g t s → cycles n f ≡ cycles n g
cycles-turned n f g s t ps pt x y =
    cycles-renumbered n t f g (product-permutes n f s t ps pt x) (product-permutes n g t s pt ps y)
    (record { permutes = pt; carries = λ k h. ap t (x.value k h) ∙ sym (y.value (t k) (pt.stays k h)) })

-- the inverse has the same leaders and as many cycles
pub leader_map-inverse : (n : ℕ) (f g lead : ℕ → ℕ) → IsPermutationBelow n f → IsPermutationBelow n g → ((k : ℕ) → k < n → f (g k) ≡ k) → IsLeaderMap n f lead → IsLeaderMap n g lead
leader_map-inverse n f g lead pf pg undoes m = record {
  least = m.least;
  along = λ k h. sym (m.along (g k) (pg.stays k h)) ∙ ap lead (undoes k h);
  joins = λ value kept k h. m.joins value (record {
    along = λ i hi.
        (let back : g (f i) ≡ i = pf.injective (g (f i)) i (pg.stays (f i) (pf.stays i hi)) hi (undoes (f i) (pf.stays i hi)) in
        sym (kept.along (f i) (pf.stays i hi)) ∙ ap value back);
  }) k h;
}

pub leader-inverse : (n : ℕ) (f g : ℕ → ℕ) → IsPermutationBelow n f → IsPermutationBelow n g → ((k : ℕ) → k < n → f (g k) ≡ k) → (d : ℕ) → d < n → leader n f d ≡ leader n g d
leader-inverse n f g pf pg undoes d h =
    leader_maps-agree n g (leader n f) (leader n g) (leader_map-inverse n f g (leader n f) pf pg undoes (leader-map n f pf)) (leader-map n g pg) d h

pub cycles-inverse : (n : ℕ) (f g : ℕ → ℕ) → IsPermutationBelow n f → IsPermutationBelow n g → ((k : ℕ) → k < n → f (g k) ≡ k) → cycles n f ≡ cycles n g
cycles-inverse n f g pf pg undoes =
    sym (cycles-count n g (leader n f) pg (leader_map-inverse n f g (leader n f) pf pg undoes (leader-map n f pf)))

-- the ring is a permutation
pub ring-permutes : (n : ℕ) (f : ℕ → ℕ) → IsRingBelow n f → IsPermutationBelow n f
ring-permutes n f r = record {
  stays = λ k h. elim (cases_eq (suc k) n) [
    | inl end ↦ omega (arith, r.last k end, h)
    | inr inner ↦ omega (arith, r.next k (omega (arith, inner, h)), inner, h)
  ];
  injective = λ j k hj hk e. elim (cases_eq (suc j) n) [
    | inl end ↦ elim (cases_eq (suc k) n) [
      | inl end' ↦ omega (arith, end, end')
      | inr inner' ↦ absurd (omega (arith, r.last j end, r.next k (omega (arith, inner', hk)), e))
    ]
    | inr inner ↦ elim (cases_eq (suc k) n) [
      | inl end' ↦ absurd (omega (arith, r.last k end', r.next j (omega (arith, inner, hj)), e))
      | inr inner' ↦ omega (arith, r.next j (omega (arith, inner, hj)), r.next k (omega (arith, inner', hk)), e)
    ]
  ];
}

-- what is kept along the ring is the same everywhere
ring_kept : (n : ℕ) (f value : ℕ → ℕ) → IsRingBelow n f → IsKeptBelow n f value → (k : ℕ) → k < n → value 0 ≡ value k
ring_kept n f value r kept zero h = refl
ring_kept n f value r kept (suc k) h =
    ring_kept n f value r kept k (omega arith) ∙ sym (kept.along k (omega arith)) ∙ ap value (r.next k h)

pub ring-map : (n : ℕ) (f : ℕ → ℕ) → IsRingBelow n f → IsLeaderMap n f (λ _. 0)
ring-map n f r = record { least = λ k h. omega arith; along = λ k h. refl; joins = λ value kept k h. ring_kept n f value r kept k h }

-- the ring has one cycle
pub cycles-ring : (n : ℕ) (f : ℕ → ℕ) → 0 < n → IsRingBelow n f → cycles n f ≡ 1
cycles-ring zero f h r = absurd (omega arith)
cycles-ring (suc n) f h r = cycles-count (suc n) f (λ _. 0) (ring-permutes (suc n) f r) (ring-map (suc n) f r) ∙ count_below-zero (suc n) h

-- the same, of a bare equation
pub cycles-carried : (n : ℕ) (p f g : ℕ → ℕ) → IsPermutationBelow n p → IsPermutationBelow n f → IsPermutationBelow n g → ((k : ℕ) → k < n → p (f k) ≡ g (p k)) → cycles n f ≡ cycles n g
cycles-carried n p f g pp pf pg carries = cycles-renumbered n p f g pf pg (record { permutes = pp; carries = carries })

-- the next number, modulo the size, is a ring
pub ring-mod : (n : ℕ) → IsRingBelow n (λ k. suc k % n)
ring-mod n = record {
  next = λ k h. mod-eq_of_lt h;
  last = λ k e. ap (λ x. x % n) e ∙ mod_self n;
}
