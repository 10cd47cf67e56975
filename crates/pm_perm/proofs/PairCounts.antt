-- How many pairs an involution has: half of what it moves; one more with one more pair; as many after renumbering.
use Rattle.std.proofs.Common.{◌≡◌, ℕ, zero, suc, ◌+◌, ◌*◌, ◌<◌, ◌≤◌, inl, inr, Bool, true, false, not, ◌&&◌, cond, ltb, eqb, sym, ap, ◌∙◌, refl, lt-ltb, le-ltb, ne_eqb, arith}
use Rattle.std.proofs.lemmas.Bool.{cases_eq, cases_order, ltb-true}
use Rattle.pm_perm.specs.Count.{count_below}
use Rattle.pm_perm.specs.Permutation.{IsPermutationBelow}
use Rattle.pm_perm.specs.Pairs.{IsInvolutionBelow, pairs}
use Rattle.pm_perm.proofs.Counts.{count_below-into, count_below-same, count_below-without}
use Rattle.pm_perm.proofs.InverseLemmas.{place_of}
use Rattle.pm_perm.proofs.Renumbered.{IsRenumbered, renumbered-back}
use Rattle.pm_perm.proofs.PartPairs.{involution-permutes}

-- the numbers that aren't their own partners
pub moved : ℕ → (ℕ → ℕ) → ℕ
moved n t = count_below (λ k. not (eqb (t k) k)) n

moved_parts : (t : ℕ → ℕ) (n : ℕ) → count_below (λ k. not (eqb (t k) k)) n ≡ count_below (λ k. ltb (t k) k) n + count_below (λ k. ltb k (t k)) n
moved_parts t zero = refl
moved_parts t (suc n) = elim (cases_order (t n) n) [
  | inl same ↦ alone t n same (moved_parts t n)
  | inr apart ↦ elim apart [ inl less ↦ lesser t n less (moved_parts t n) | inr more ↦ greater t n more (moved_parts t n) ]
] where
  alone : (t : ℕ → ℕ) (n : ℕ) → t n ≡ n → count_below (λ k. not (eqb (t k) k)) n ≡ count_below (λ k. ltb (t k) k) n + count_below (λ k. ltb k (t k)) n
      → count_below (λ k. not (eqb (t k) k)) (suc n) ≡ count_below (λ k. ltb (t k) k) (suc n) + count_below (λ k. ltb k (t k)) (suc n)
  alone t n e h = grind arith

  lesser : (t : ℕ → ℕ) (n : ℕ) → t n < n → count_below (λ k. not (eqb (t k) k)) n ≡ count_below (λ k. ltb (t k) k) n + count_below (λ k. ltb k (t k)) n
      → count_below (λ k. not (eqb (t k) k)) (suc n) ≡ count_below (λ k. ltb (t k) k) (suc n) + count_below (λ k. ltb k (t k)) (suc n)
  lesser t n e h = grind arith

  greater : (t : ℕ → ℕ) (n : ℕ) → n < t n → count_below (λ k. not (eqb (t k) k)) n ≡ count_below (λ k. ltb (t k) k) n + count_below (λ k. ltb k (t k)) n
      → count_below (λ k. not (eqb (t k) k)) (suc n) ≡ count_below (λ k. ltb (t k) k) (suc n) + count_below (λ k. ltb k (t k)) (suc n)
  greater t n e h = grind arith

-- each pair has a lesser end and a greater end
ends_alike : (n : ℕ) (t : ℕ → ℕ) → IsInvolutionBelow n t → count_below (λ k. ltb (t k) k) n ≡ count_below (λ k. ltb k (t k)) n
ends_alike n t v =
    let p : IsPermutationBelow n t = involution-permutes n t v in
    let up : count_below (λ k. ltb (t k) k) n ≤ count_below (λ k. ltb k (t k)) n = count_below-into (λ k. ltb (t k) k) (λ k. ltb k (t k)) t n n
    (λ k h _. v.stays k h) (λ k h e. lt-ltb (t k) (t (t k)) (omega (arith, ltb-true (t k) k e, v.twice k h))) (λ j k hj hk _ _ e. p.injective j k hj hk e) in
    let down : count_below (λ k. ltb k (t k)) n ≤ count_below (λ k. ltb (t k) k) n = count_below-into (λ k. ltb k (t k)) (λ k. ltb (t k) k) t n n
    (λ k h _. v.stays k h) (λ k h e. lt-ltb (t (t k)) (t k) (omega (arith, ltb-true k (t k) e, v.twice k h))) (λ j k hj hk _ _ e. p.injective j k hj hk e) in
    omega (arith, up, down)

-- what is moved is two for each pair
pub moved-pairs : (n : ℕ) (t : ℕ → ℕ) → IsInvolutionBelow n t → moved n t ≡ 2 * pairs n t
unfolding moved
moved-pairs n t v = omega (arith, moved_parts t n, ends_alike n t v)

-- where nothing is its own partner, the numbers are two for each pair
pub pairs-all : (n : ℕ) (t : ℕ → ℕ) → IsInvolutionBelow n t → ((k : ℕ) → k < n → t k ≡ k → ⊥) → n ≡ 2 * pairs n t
unfolding moved
pairs-all n t v none = sym (all n t none) ∙ moved-pairs n t v where
  all_more : (n : ℕ) (t : ℕ → ℕ) → (t n ≡ n → ⊥) → count_below (λ k. not (eqb (t k) k)) n ≡ n → count_below (λ k. not (eqb (t k) k)) (suc n) ≡ suc n
  all_more n t ne h = grind arith

  all : (n : ℕ) (t : ℕ → ℕ) → ((k : ℕ) → k < n → t k ≡ k → ⊥) → count_below (λ k. not (eqb (t k) k)) n ≡ n
  all zero t none = refl
  all (suc n) t none = all_more n t (none n (omega arith)) (all n t (λ k h. none k (omega arith)))

differs : (x k : ℕ) → not (eqb x k) ≡ true → x ≡ k → ⊥
differs x k e e' = grind arith

moved_le : (n : ℕ) (p t t' : ℕ → ℕ) → IsInvolutionBelow n t → IsRenumbered n p t t' → moved n t ≤ moved n t'
unfolding moved
moved_le n p t t' v r =
    let q : IsPermutationBelow n p = r.permutes in
    count_below-into (λ k. not (eqb (t k) k)) (λ k. not (eqb (t' k) k)) p n n (λ k h _. q.stays k h)
    (λ k h e. ap not (ne_eqb (t' (p k)) (p k) (λ same. differs (t k) k e (q.injective (t k) k (v.stays k h) h (r.carries k h ∙ same)))))
    (λ j k hj hk _ _ e. q.injective j k hj hk e)

-- after renumbering there are as many pairs
pub pairs-renumbered : (n : ℕ) (p t t' : ℕ → ℕ) → IsInvolutionBelow n t → IsInvolutionBelow n t' → IsRenumbered n p t t' → pairs n t ≡ pairs n t'
pairs-renumbered n p t t' v v' r =
    let up : moved n t ≤ moved n t' = moved_le n p t t' v r in
    let down : moved n t' ≤ moved n t = moved_le n (place_of p n) t' t v' (renumbered-back n p t t' (involution-permutes n t v) r) in
    omega (arith, up, down, moved-pairs n t v, moved-pairs n t' v')

-- one more number that passes counts one more
count_rises : (P Q : ℕ → Bool) (a n : ℕ) → a < n → P a ≡ false → Q a ≡ true → ((k : ℕ) → k < n → (k ≡ a → ⊥) → Q k ≡ P k) → count_below Q n ≡ count_below P n + 1
count_rises P Q a n h before after other =
    let without : count_below Q n ≡ count_below (λ k. Q k && not (eqb k a)) n + cond (Q a) 1 0 = count_below-without Q a n h in
    let same : count_below P n ≡ count_below (λ k. Q k && not (eqb k a)) n = count_below-same P (λ k. Q k && not (eqb k a)) n (λ k hk. elim (cases_eq k a) [
      | inl e ↦ at_number P Q a k e before
      | inr ne ↦ at_other P Q a k ne (other k hk ne)
    ]) in
    rises (count_below P n) (count_below Q n) (count_below (λ k. Q k && not (eqb k a)) n) (Q a) after without same where
      at_number : (P Q : ℕ → Bool) (a k : ℕ) → k ≡ a → P a ≡ false → P k ≡ (Q k && not (eqb k a))
      at_number P Q a k e before = grind arith

      at_other : (P Q : ℕ → Bool) (a k : ℕ) → (k ≡ a → ⊥) → Q k ≡ P k → P k ≡ (Q k && not (eqb k a))
      at_other P Q a k ne e = grind arith

      rises : (p q w : ℕ) (b : Bool) → b ≡ true → q ≡ w + cond b 1 0 → p ≡ w → q ≡ p + 1
      rises p q w b e e' e'' = grind arith

-- one more pair, of two numbers that were alone
pub record IsOnePairMore (n : ℕ) (t t' : ℕ → ℕ) (x y : ℕ) : Type 0 where
  pub first : x < n
  pub second : y < n
  pub first_alone : t x ≡ x
  pub second_alone : t y ≡ y
  pub first_partner : t' x ≡ y
  pub second_partner : t' y ≡ x
  pub elsewhere : (k : ℕ) → k < n → (k ≡ x → ⊥) → (k ≡ y → ⊥) → t' k ≡ t k

pairs_ordered : (n : ℕ) (t t' : ℕ → ℕ) (x y : ℕ) → IsOnePairMore n t t' x y → x < y → pairs n t' ≡ pairs n t + 1
pairs_ordered n t t' x y w less = count_rises (λ k. ltb (t k) k) (λ k. ltb (t' k) k) y n w.second
    (le-ltb (t y) y (omega (arith, w.second_alone))) (lt-ltb (t' y) y (omega (arith, w.second_partner, less)))
    (λ k h ne. elim (cases_eq k x) [
      | inl e ↦ le-ltb (t' k) k (omega (arith, ap t' e, w.first_partner, e, less)) ∙ sym (le-ltb (t k) k (omega (arith, ap t e, w.first_alone, e)))
      | inr ne' ↦ ap (λ v. ltb v k) (w.elsewhere k h ne' ne)
    ])

pub pairs-one_more : (n : ℕ) (t t' : ℕ → ℕ) (x y : ℕ) → (x ≡ y → ⊥) → IsOnePairMore n t t' x y → pairs n t' ≡ pairs n t + 1
pairs-one_more n t t' x y differ w = elim (cases_order x y) [
  | inl same ↦ absurd (differ same)
  | inr apart ↦ elim apart [
    | inl less ↦ pairs_ordered n t t' x y w less
    | inr more ↦ pairs_ordered n t t' y x (record {
      first = w.second;
      second = w.first;
      first_alone = w.second_alone;
      second_alone = w.first_alone;
      first_partner = w.second_partner;
      second_partner = w.first_partner;
      elsewhere = λ k h ny nx. w.elsewhere k h nx ny;
    }) more
  ]
]
