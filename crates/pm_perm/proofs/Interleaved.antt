-- Two permutations side by side, one on the even numbers and the other on the odd ones: together they have the cycles of
-- both.
use Rattle.std.proofs.Common.{◌≡◌, ℕ, zero, suc, ◌+◌, ◌*◌, ◌/◌, ◌%◌, ◌<◌, ◌≤◌, inl, inr, Bool, eqb, cond, refl, sym, ap, ◌∙◌, subst, arith}
use Rattle.std.proofs.lemmas.Bool.{cases_eq}
use Rattle.pm_perm.specs.Count.{count_below}
use Rattle.pm_perm.specs.Permutation.{IsPermutationBelow}
use Rattle.pm_perm.specs.Cycles.{leader, cycles}
use Rattle.pm_perm.proofs.Counts.{count_below-same}
use Rattle.pm_perm.proofs.LeaderMaps.{IsLeaderMap, leader-map, cycles-count}

-- h is f on the even numbers and g on the odd ones
pub record IsInterleaved (n : ℕ) (f g h : ℕ → ℕ) : Type 0 where
  pub even : (d : ℕ) → d < n → h (2 * d) ≡ 2 * f d
  pub odd : (d : ℕ) → d < n → h (suc (2 * d)) ≡ suc (2 * g d)

-- a number is twice its half, or one more
pub data Parity (k : ℕ) : Type 0 where
  is_even : k ≡ 2 * (k / 2) → Parity k
  is_odd : k ≡ suc (2 * (k / 2)) → Parity k

pub parity : (k : ℕ) → Parity k
parity k = elim (cases_eq (k % 2) 0) [ inl even ↦ is_even (omega (arith, even)) | inr odd ↦ is_odd (omega (arith, odd)) ]

pub half_below : (n k : ℕ) → k < 2 * n → k / 2 < n
half_below n k h = omega arith

-- what holds of all even and of all odd numbers below twice a bound holds of all numbers below it
pub by_parity : (P : ℕ → Type 0) (n : ℕ) → ((d : ℕ) → d < n → P (2 * d)) → ((d : ℕ) → d < n → P (suc (2 * d))) → (k : ℕ) → k < 2 * n → P k
by_parity P n even odd k h = elim (parity k) [
  | is_even e ↦ subst P (sym e) (even (k / 2) (half_below n k h))
  | is_odd e ↦ subst P (sym e) (odd (k / 2) (half_below n k h))
]

-- what passes below twice a bound are the even numbers that pass and the odd ones
pub count_below-parity : (P : ℕ → Bool) (n : ℕ) → count_below P (2 * n) ≡ count_below (λ d. P (2 * d)) n + count_below (λ d. P (suc (2 * d))) n
count_below-parity P zero = refl
count_below-parity P (suc n) =
    let twice : 2 * suc n ≡ suc (suc (2 * n)) = omega arith in
    rw (twice, count_below-parity P n) (omega arith)

-- the leader of a number on its side
side_leader : ℕ → (ℕ → ℕ) → (ℕ → ℕ) → ℕ → ℕ
side_leader n f g k = cond (eqb (k % 2) 0) (2 * leader n f (k / 2)) (suc (2 * leader n g (k / 2)))

even_side : (n : ℕ) (f g : ℕ → ℕ) (d : ℕ) → side_leader n f g (2 * d) ≡ 2 * leader n f d
unfolding side_leader
even_side n f g d = let half : 2 * d / 2 ≡ d = omega arith in let rest : 2 * d % 2 ≡ 0 = omega arith in rw (half, rest) refl

odd_side : (n : ℕ) (f g : ℕ → ℕ) (d : ℕ) → side_leader n f g (suc (2 * d)) ≡ suc (2 * leader n g d)
unfolding side_leader
odd_side n f g d = let half : suc (2 * d) / 2 ≡ d = omega arith in let rest : suc (2 * d) % 2 ≡ 1 = omega arith in rw (half, rest) refl

module _ (n : ℕ) (f g h : ℕ → ℕ) (pf : IsPermutationBelow n f) (pg : IsPermutationBelow n g) (is : IsInterleaved n f g h) where
  pub interleaved_permutes : IsPermutationBelow (2 * n) h
  interleaved_permutes = record {
    stays = by_parity (λ k. h k < 2 * n) n
        (λ d less. let here = is.even d less in let stays = pf.stays d less in omega arith)
        (λ d less. let here = is.odd d less in let stays = pg.stays d less in omega arith);
    injective = λ j k hj hk same.
        by_parity (λ j. (k : ℕ) → k < 2 * n → h j ≡ h k → j ≡ k) n
        (λ d less. by_parity (λ k. h (2 * d) ≡ h k → 2 * d ≡ k) n
        (λ e less' same. let here = is.even d less in let there = is.even e less' in ap (λ x. 2 * x) (pf.injective d e less less' (omega arith)))
        (λ e less' same. let here = is.even d less in let there = is.odd e less' in absurd (omega arith)))
        (λ d less. by_parity (λ k. h (suc (2 * d)) ≡ h k → suc (2 * d) ≡ k) n
        (λ e less' same. let here = is.odd d less in let there = is.even e less' in absurd (omega arith))
        (λ e less' same. let here = is.odd d less in let there = is.odd e less' in ap (λ x. suc (2 * x)) (pg.injective d e less less' (omega arith))))
        j hj k hk same;
  }

  side_leaders : IsLeaderMap (2 * n) h (side_leader n f g)
  side_leaders =
      let lf : IsLeaderMap n f (leader n f) = leader-map n f pf in
      let lg : IsLeaderMap n g (leader n g) = leader-map n g pg in
      record {
        least = by_parity (λ k. side_leader n f g k ≤ k) n
            (λ d less. let here = even_side n f g d in let low = lf.least d less in omega arith)
            (λ d less. let here = odd_side n f g d in let low = lg.least d less in omega arith);
        along = by_parity (λ k. side_leader n f g (h k) ≡ side_leader n f g k) n
            (λ d less. ap (side_leader n f g) (is.even d less) ∙ even_side n f g (f d) ∙ ap (λ x. 2 * x) (lf.along d less) ∙ sym (even_side n f g d))
            (λ d less. ap (side_leader n f g) (is.odd d less) ∙ odd_side n f g (g d) ∙ ap (λ x. suc (2 * x)) (lg.along d less) ∙ sym (odd_side n f g d));
        joins = λ value kept. by_parity (λ k. value (side_leader n f g k) ≡ value k) n
            (λ d less. ap value (even_side n f g d)
            ∙ lf.joins (λ x. value (2 * x)) (record { along = λ e less'. ap value (sym (is.even e less')) ∙ kept.along (2 * e) (omega arith) }) d less)
            (λ d less. ap value (odd_side n f g d)
            ∙ lg.joins (λ x. value (suc (2 * x))) (record { along = λ e less'. ap value (sym (is.odd e less')) ∙ kept.along (suc (2 * e)) (omega arith) }) d less);
      }

  pub cycles-interleaved : cycles (2 * n) h ≡ cycles n f + cycles n g
  cycles-interleaved =
      let all = cycles-count (2 * n) h (side_leader n f g) interleaved_permutes side_leaders in
      let evens : (d : ℕ) → eqb (side_leader n f g (2 * d)) (2 * d) ≡ eqb (leader n f d) d = λ d. rw (even_side n f g d) (twice_eqb (leader n f d) d) in
      let odds : (d : ℕ) → eqb (side_leader n f g (suc (2 * d))) (suc (2 * d)) ≡ eqb (leader n g d) d = λ d. rw (odd_side n f g d) (odd_eqb (leader n g d) d) in
      let counted = count_below-parity (λ k. eqb (side_leader n f g k) k) n in
      let left = count_below-same (λ d. eqb (side_leader n f g (2 * d)) (2 * d)) (λ d. eqb (leader n f d) d) n (λ d _. evens d) in
      let right = count_below-same (λ d. eqb (side_leader n f g (suc (2 * d))) (suc (2 * d))) (λ d. eqb (leader n g d) d) n (λ d _. odds d) in
      omega (arith, all, counted, left, right) where
        twice_eqb : (x y : ℕ) → eqb (2 * x) (2 * y) ≡ eqb x y
        twice_eqb x y = elim (cases_eq x y) [ inl same ↦ grind arith | inr other ↦ grind arith ]

        odd_eqb : (x y : ℕ) → eqb (suc (2 * x)) (suc (2 * y)) ≡ eqb x y
        odd_eqb x y = elim (cases_eq x y) [ inl same ↦ grind arith | inr other ↦ grind arith ]
