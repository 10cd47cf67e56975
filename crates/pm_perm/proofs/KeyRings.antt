-- Numbers in the order of their keys: what leads from each to the one with the next greater key, and from the greatest to the
-- least, is a ring, and pairs that are nested in this order split it fully.
use Rattle.std.proofs.Common.{◌≡◌, ℕ, suc, ◌+◌, ◌%◌, ◌<◌, ◌≤◌, Bool, true, not, ◌&&◌, cond, eqb, ltb, inl, inr, refl, ap, sym, ◌∙◌, arith, eq-eqb, ne_eqb, lt-ltb, le-ltb}
use Rattle.std.proofs.lemmas.Bool.{cases_eq, cases_lt, cases_order, ltb-true, and_from, and_left, and_right}
use Rattle.pm_perm.specs.Count.{count_below}
use Rattle.pm_perm.specs.Permutation.{IsPermutationBelow}
use Rattle.pm_perm.specs.Cycles.{cycles}
use Rattle.pm_perm.specs.Exchange.{IsProductBelow}
use Rattle.pm_perm.specs.Pairs.{IsInvolutionBelow, IsNestedBelow, pairs}
use Rattle.pm_perm.proofs.Counts.{count_below-same, count_below-le, count_below-all, count_below-none, count_below-without, one_passes, some_pass}
use Rattle.pm_perm.proofs.InverseLemmas.{place_of, place_of-permutes, value-place_of, place_of-of_value}
use Rattle.pm_perm.proofs.Nested.{cycles-nested}
use Rattle.pm_perm.proofs.PairCounts.{pairs-renumbered}
use Rattle.pm_perm.proofs.PartPairs.{involution-permutes}
use Rattle.pm_perm.proofs.Renumbered.{ring-mod, ring-permutes, cycles-carried, product-permutes}

-- each number has a key of its own, and f leads from each to the one with the next greater key, from the greatest to the least
pub record IsKeyRing (n : ℕ) (key f : ℕ → ℕ) : Type 0 where
  pub distinct : (j k : ℕ) → j < n → k < n → key j ≡ key k → j ≡ k
  pub stays : (k : ℕ) → k < n → f k < n
  pub rises : (k e : ℕ) → k < n → e < n → key k < key e → (key k < key (f k)) × (key (f k) ≤ key e)
  pub returns : (k : ℕ) → k < n → ((e : ℕ) → e < n → key e ≤ key k) → (e : ℕ) → e < n → key (f k) ≤ key e

-- pairs are nested in the order of the keys: what stands between the ends of a pair has its partner there too
pub record IsNestedByKeys (n : ℕ) (key t : ℕ → ℕ) : Type 0 where
  pub above : (p r : ℕ) → p < n → r < n → key p < key r → key r < key (t p) → key p < key (t r)
  pub below : (p r : ℕ) → p < n → r < n → key p < key r → key r < key (t p) → key (t r) < key (t p)

-- how many keys are less
pub rank_of : ℕ → (ℕ → ℕ) → ℕ → ℕ
rank_of n key d = count_below (λ e. ltb (key e) (key d)) n

pub rank_of-is : (n : ℕ) (key : ℕ → ℕ) (d : ℕ) → rank_of n key d ≡ count_below (λ e. ltb (key e) (key d)) n
unfolding rank_of
rank_of-is n key d = refl

small : (k n : ℕ) → k < n → k % n ≡ k
small k n l = grind arith

whole : (k n : ℕ) → k ≡ n → 0 < n → k % n ≡ 0
whole k n e l = grind arith

module _ (n : ℕ) (key f : ℕ → ℕ) (ring : IsKeyRing n key f) where
  less : ℕ → ℕ → Bool
  less d e = ltb (key e) (key d)

  -- all numbers with keys below that of d, and one more number
  place-more : (d e : ℕ) → d < n → ((k : ℕ) → k < n → (less e k && not (eqb k d)) ≡ less d k) → key d < key e → rank_of n key e ≡ suc (rank_of n key d)
  unfolding less rank_of
  place-more d e h same below =
      let without = count_below-without (λ k. ltb (key k) (key e)) d n h in
      let rest = count_below-same (λ k. ltb (key k) (key e) && not (eqb k d)) (λ k. ltb (key k) (key d)) n same in
      let here : cond {A = ℕ} (ltb (key d) (key e)) 1 0 ≡ 1 = ap (λ (b : Bool). cond {A = ℕ} b 1 0) (lt-ltb (key d) (key e) below) in
      omega (arith, without, rest, here)

  -- a greater key has a greater rank
  pub rank-rises : (d e : ℕ) → d < n → key d < key e → rank_of n key d < rank_of n key e
  unfolding rank_of
  rank-rises d e h below =
      let without = count_below-without (λ k. ltb (key k) (key e)) d n h in
      let here : cond {A = ℕ} (ltb (key d) (key e)) 1 0 ≡ 1 = ap (λ (b : Bool). cond {A = ℕ} b 1 0) (lt-ltb (key d) (key e) below) in
      let fewer = count_below-le (λ k. ltb (key k) (key d)) (λ k. ltb (key k) (key e) && not (eqb k d)) n (λ k l passes.
      let lower : key k < key d = ltb-true (key k) (key d) passes in
      and_from (ltb (key k) (key e)) (not (eqb k d)) (lt-ltb (key k) (key e) (omega (arith, lower, below))) (ap not (ne_eqb k d (λ same. let e' = ap key same in omega (arith, e', lower))))) in
      omega (arith, without, here, fewer)

  pub rank-within : (d : ℕ) → d < n → rank_of n key d < n
  unfolding rank_of
  rank-within d h =
      let without = count_below-without (λ k. true) d n h in
      let all = count_below-all (λ k. true) n (λ k l. refl) in
      let fewer = count_below-le (λ k. ltb (key k) (key d)) (λ k. true && not (eqb k d)) n (λ k l passes.
      let lower : key k < key d = ltb-true (key k) (key d) passes in
      ap not (ne_eqb k d (λ same. let e' = ap key same in omega (arith, e', lower)))) in
      omega (arith, without, all, fewer)

  -- so the order of the ranks is that of the keys
  pub rank-tells : (d e : ℕ) → d < n → e < n → rank_of n key d < rank_of n key e → key d < key e
  rank-tells d e h i l = elim (cases_order (key d) (key e)) [
    | inl same ↦ absurd (let e' = ap (rank_of n key) (ring.distinct d e h i same) in omega (arith, e', l))
    | inr apart ↦ elim apart [ inl below ↦ below | inr above ↦ absurd (let m = rank-rises e d i above in omega (arith, l, m)) ]
  ]

  pub rank-permutes : IsPermutationBelow n (rank_of n key)
  rank-permutes = record {
    stays = rank-within;
    injective = λ j k hj hk e. elim (cases_order (key j) (key k)) [
      | inl same ↦ ring.distinct j k hj hk same
      | inr apart ↦ elim apart [
        | inl below ↦ absurd (let l = rank-rises j k hj below in omega (arith, l, e))
        | inr above ↦ absurd (let l = rank-rises k j hk above in omega (arith, l, e))
      ]
    ];
  }

  -- the next greater key has the next rank
  rank-next : (d e : ℕ) → d < n → e < n → key d < key e → rank_of n key (f d) ≡ suc (rank_of n key d)
  unfolding less
  rank-next d e h i below =
      let up = ring.rises d e h i below in
      place-more d (f d) h (λ k l. elim (cases_lt (key k) (key d)) [
        | inl lower ↦
            and_from (ltb (key k) (key (f d))) (not (eqb k d)) (lt-ltb (key k) (key (f d)) (let a = up.0 in omega (arith, lower, a))) (ap not (ne_eqb k d (λ same. let e' = ap key same in omega (arith, e', lower))))
            ∙ sym (lt-ltb (key k) (key d) lower)
        | inr higher ↦ elim (cases_eq k d) [
          | inl same ↦ and_right (ltb (key k) (key (f d))) (not (eqb k d)) (ap not (eq-eqb k d same)) ∙ sym (le-ltb (key k) (key d) higher)
          | inr other ↦
              let above : key d < key k = elim (cases_eq (key k) (key d)) [ inl same ↦ absurd (other (ring.distinct k d l h same)) | inr apart ↦ omega (arith, apart, higher) ] in
              let next = (ring.rises d k h l above).1 in
              and_left (ltb (key k) (key (f d))) (not (eqb k d)) (le-ltb (key k) (key (f d)) next) ∙ sym (le-ltb (key k) (key d) higher)
        ]
      ]) up.0

  -- the greatest key has the last rank, and leads to the first
  rank-last : (d : ℕ) → d < n → ((e : ℕ) → e < n → key e ≤ key d) → suc (rank_of n key d) ≡ n
  unfolding rank_of
  rank-last d h greatest =
      let without = count_below-without (λ k. true) d n h in
      let all = count_below-all (λ k. true) n (λ k l. refl) in
      let same = count_below-same (λ k. true && not (eqb k d)) (λ k. ltb (key k) (key d)) n (λ k l. elim (cases_eq k d) [
        | inl same ↦ ap not (eq-eqb k d same) ∙ sym (le-ltb (key k) (key d) (let e' = ap key same in omega (arith, e')))
        | inr other ↦
            ap not (ne_eqb k d other) ∙ sym (lt-ltb (key k) (key d) (let g = greatest k l in elim (cases_eq (key k) (key d)) [ inl e' ↦ absurd (other (ring.distinct k d l h e')) | inr apart ↦ omega (arith, apart, g) ]))
      ]) in
      omega (arith, without, all, same)

  rank-first : (d : ℕ) → d < n → ((e : ℕ) → e < n → key e ≤ key d) → rank_of n key (f d) ≡ 0
  unfolding rank_of
  rank-first d h greatest = count_below-none (λ e. ltb (key e) (key (f d))) n (λ e l. le-ltb (key e) (key (f d)) (ring.returns d h greatest e l))

  -- f steps along the ranks
  pub rank-steps : (d : ℕ) → d < n → rank_of n key (f d) ≡ suc (rank_of n key d) % n
  rank-steps d h = elim (cases_lt 0 (count_below (λ e. ltb (key d) (key e)) n)) [
    | inl some ↦
        let found = one_passes (λ e. ltb (key d) (key e)) n some in
        let next = rank-next d found.0 h found.1 (ltb-true (key d) (key found.0) found.2) in
        let within = rank-within (f d) (ring.stays d h) in
        next ∙ sym (small (suc (rank_of n key d)) n (omega (arith, next, within)))
    | inr none ↦
        let greatest : (e : ℕ) → e < n → key e ≤ key d = λ e l. elim (cases_lt (key d) (key e)) [
          | inl above ↦ absurd (let some = some_pass (λ i. ltb (key d) (key i)) e n l (lt-ltb (key d) (key e) above) in omega (arith, some, none))
          | inr within ↦ within
        ] in
        rank-first d h greatest ∙ sym (whole (suc (rank_of n key d)) n (rank-last d h greatest) (omega (arith, h)))
  ]

  -- so f is a permutation
  pub key_ring-permutes : IsPermutationBelow n f
  key_ring-permutes = record {
    stays = ring.stays;
    injective = λ j k hj hk e.
        let steps : suc (rank_of n key j) % n ≡ suc (rank_of n key k) % n = sym (rank-steps j hj) ∙ ap (rank_of n key) e ∙ rank-steps k hk in
        let p = ring-permutes n (λ i. suc i % n) (ring-mod n) in
        rank-permutes.injective j k hj hk (p.injective (rank_of n key j) (rank_of n key k) (rank-within j hj) (rank-within k hk) steps);
  }

  -- pairs by ranks
  module _ (t : ℕ → ℕ) (v : IsInvolutionBelow n t) (nested : IsNestedByKeys n key t) where
    back-stays : (k : ℕ) → k < n → place_of (rank_of n key) n k < n
    back-stays k h = (place_of-permutes (rank_of n key) n rank-permutes).stays k h

    back-rank : (k : ℕ) → k < n → rank_of n key (place_of (rank_of n key) n k) ≡ k
    back-rank k h = value-place_of (rank_of n key) n k rank-permutes h

    by_rank : ℕ → ℕ
    by_rank k = rank_of n key (t (place_of (rank_of n key) n k))

    by_rank-of : (d : ℕ) → d < n → by_rank (rank_of n key d) ≡ rank_of n key (t d)
    unfolding by_rank
    by_rank-of d h = ap (λ e. rank_of n key (t e)) (place_of-of_value (rank_of n key) n d rank-permutes h)

    by_rank-involution : IsInvolutionBelow n by_rank
    unfolding by_rank
    by_rank-involution = record {
      stays = λ k h. rank-within (t (place_of (rank_of n key) n k)) (v.stays (place_of (rank_of n key) n k) (back-stays k h));
      twice = λ k h. by_rank-of (t (place_of (rank_of n key) n k)) (v.stays (place_of (rank_of n key) n k) (back-stays k h))
          ∙ ap (rank_of n key) (v.twice (place_of (rank_of n key) n k) (back-stays k h)) ∙ back-rank k h;
    }

    by_rank-nested : IsNestedBelow n by_rank
    unfolding by_rank
    by_rank-nested = record {
      above = λ p r within first second.
          let r_in : r < n = omega (arith, within, second) in
          let p_in : p < n = omega (arith, r_in, first) in
          let here = inside p r p_in r_in (v.stays (place_of (rank_of n key) n p) (back-stays p p_in)) first second in
          let up = rank-rises (place_of (rank_of n key) n p) (t (place_of (rank_of n key) n r)) (back-stays p p_in)
          (nested.above (place_of (rank_of n key) n p) (place_of (rank_of n key) n r) (back-stays p p_in) (back-stays r r_in) here.0 here.1) in
          let is = back-rank p p_in in
          omega (arith, up, is);
      below = λ p r within first second.
          let r_in : r < n = omega (arith, within, second) in
          let p_in : p < n = omega (arith, r_in, first) in
          let here = inside p r p_in r_in (v.stays (place_of (rank_of n key) n p) (back-stays p p_in)) first second in
          rank-rises (t (place_of (rank_of n key) n r)) (t (place_of (rank_of n key) n p)) (v.stays (place_of (rank_of n key) n r) (back-stays r r_in))
          (nested.below (place_of (rank_of n key) n p) (place_of (rank_of n key) n r) (back-stays p p_in) (back-stays r r_in) here.0 here.1);
    } where
      inside : (p r : ℕ) → p < n → r < n → t (place_of (rank_of n key) n p) < n → p < r → r < rank_of n key (t (place_of (rank_of n key) n p))
          → (key (place_of (rank_of n key) n p) < key (place_of (rank_of n key) n r)) × (key (place_of (rank_of n key) n r) < key (t (place_of (rank_of n key) n p)))
      inside p r p_in r_in end_in first second =
          let a = back-rank p p_in in
          let b = back-rank r r_in in (
            rank-tells (place_of (rank_of n key) n p) (place_of (rank_of n key) n r) (back-stays p p_in) (back-stays r r_in) (omega (arith, a, b, first)),
            rank-tells (place_of (rank_of n key) n r) (t (place_of (rank_of n key) n p)) (back-stays r r_in) end_in (omega (arith, b, second)),
          )

    -- the ring is split fully by nested pairs
    pub key_ring-cycles : (g : ℕ → ℕ) → 0 < n → IsProductBelow n g f t → cycles n g ≡ 1 + pairs n t
    key_ring-cycles g some x =
        let step : ℕ → ℕ = λ k. suc k % n in
        let ranked : ℕ → ℕ = λ k. suc (by_rank k) % n in
        let product : IsProductBelow n ranked step by_rank = record { value = λ k h. refl } in
        let carried : cycles n g ≡ cycles n ranked = cycles-carried n (rank_of n key) g ranked rank-permutes
        (product-permutes n g f t key_ring-permutes (involution-permutes n t v) x)
        (product-permutes n ranked step by_rank (ring-permutes n step (ring-mod n)) (involution-permutes n by_rank by_rank-involution) product)
        (λ k h. ap (rank_of n key) (x.value k h) ∙ rank-steps (t k) (v.stays k h) ∙ ap (λ (i : ℕ). suc i % n) (sym (by_rank-of k h))) in
        let whole : cycles n ranked ≡ 1 + pairs n by_rank = cycles-nested n ranked step by_rank some (ring-mod n) by_rank-involution product by_rank-nested in
        let same : pairs n t ≡ pairs n by_rank = pairs-renumbered n (rank_of n key) t by_rank v by_rank-involution
        (record { permutes = rank-permutes; carries = λ k h. sym (by_rank-of k h) }) in
        carried ∙ whole ∙ ap (λ (i : ℕ). 1 + i) (sym same)
