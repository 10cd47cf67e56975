-- The walk along pairs of a degree and a count: the first that isn't right, and the sum of the degrees.
use Rattle.std.proofs.Common.{◌≡◌, ℕ, zero, suc, ◌+◌, ◌*◌, ◌%◌, ◌^◌, ◌≤◌, ◌<◌, inl, inr, List, [], ◌∷◌, length, take, refl, ap, sym, ◌∙◌, subst, arith, take_all}
use Rattle.std.proofs.Math.Nat.{mul-le-mul}
use Rattle.std.proofs.lemmas.Bool.{cases_lt, cases_eq}
use Rattle.std.proofs.lemmas.List.Sums.{sum_by-cons, sum_by_more}
use Rattle.pm_limits.specs.declared.TheConstants.{MAX_DEGREE}
use Rattle.pm_brackets.specs.First.{IsFirst}
use Rattle.pm_trees.specs.Pairs.{pair_at, degree_before, IsRight, IsRightPair, BreaksPair, ArePairs, degree_sum}
use Rattle.pm_trees.specs.Pairs.BreaksPair.{empty, wrong}

pub record AreRightBelow (pairs : List (ℕ × ℕ)) (before i : ℕ) : Type 0 where
  pub right : (k : ℕ) → k < i → IsRightPair pairs k
  pub last : before ≡ degree_before pairs i

pub right_start : (pairs : List (ℕ × ℕ)) → AreRightBelow pairs 0 0
right_start pairs = record { right = λ k l. absurd (omega arith); last = refl }

pub right_next : (pairs : List (ℕ × ℕ)) (before before' i j : ℕ) → AreRightBelow pairs before i → IsRight before (pair_at pairs i).0 (pair_at pairs i).1 → before' ≡ (pair_at pairs i).0 → j ≡ suc i → AreRightBelow pairs before' j
right_next pairs before before' i j a h e f =
    let here : IsRightPair pairs i = subst (λ (b : ℕ). IsRight b (pair_at pairs i).0 (pair_at pairs i).1) a.last h in
    subst (AreRightBelow pairs before') (sym f) (record {
      right = λ k l. elim (cases_eq k i) [
        | inl same ↦ subst (IsRightPair pairs) (sym same) here
        | inr ne ↦ a.right k (omega arith)
      ];
      last = e;
    })

pub wrong_found : (pairs : List (ℕ × ℕ)) (before i : ℕ) → i < length pairs → AreRightBelow pairs before i → (IsRight before (pair_at pairs i).0 (pair_at pairs i).1 → ⊥) → IsFirst (BreaksPair pairs) i
wrong_found pairs before i l a h = record {
  here = wrong l (λ r. h (subst (λ (b : ℕ). IsRight b (pair_at pairs i).0 (pair_at pairs i).1) (sym a.last) r));
  least = λ k b. elim b [
    | empty e _ ↦ absurd (omega arith)
    | wrong _ n ↦ elim (cases_lt k i) [ inl less ↦ absurd (n (a.right k less)) | inr more ↦ more ]
  ];
}

pub none_found : (pairs : List (ℕ × ℕ)) → length pairs ≡ 0 → IsFirst (BreaksPair pairs) 0
none_found pairs e = record { here = empty e refl; least = λ k b. omega arith }

pub right_end : (pairs : List (ℕ × ℕ)) (before i : ℕ) → (length pairs ≡ 0 → ⊥) → length pairs ≤ i → AreRightBelow pairs before i → ArePairs pairs
right_end pairs before i ne e a = record { some = omega arith; right = λ k l. a.right k (omega arith) }

-- degrees rise, so there are few pairs
degree_above : (pairs : List (ℕ × ℕ)) (k : ℕ) → ArePairs pairs → k < length pairs → k < (pair_at pairs k).0
degree_above pairs zero a l = let r = a.right 0 l in omega (arith, r.some)
degree_above pairs (suc k) a l =
    let r = a.right (suc k) l in
    let h = degree_above pairs k a (omega arith) in
    omega (arith, r.rising, h)

pub record IsSummed (pairs : List (ℕ × ℕ)) (sum i : ℕ) : Type 0 where
  pub counted : sum ≡ degree_sum (take i pairs)
  pub small : sum ≤ i * (MAX_DEGREE * 2 ^ 32)

-- the next pair is counted, and the sum stays small
pub record IsNextSum (pairs : List (ℕ × ℕ)) (sum i degree count : ℕ) : Type 0 where
  pub fits : sum + degree * count < 2 ^ 64
  pub next : IsSummed pairs (sum + degree * count) (i + 1)

pub summed_start : (pairs : List (ℕ × ℕ)) → IsSummed pairs 0 0
summed_start pairs = record { counted = refl; small = omega arith }

pub summed_next : (pairs : List (ℕ × ℕ)) (sum i degree count : ℕ) → i < length pairs → ArePairs pairs → degree ≡ (pair_at pairs i).0 → count ≡ (pair_at pairs i).1 → count < 2 ^ 32 → IsSummed pairs sum i → IsNextSum pairs sum i degree count
summed_next pairs sum i degree count l a e f small s =
    let d = degree_above pairs i a l in
    let r = a.right i l in
    let x : degree ≤ MAX_DEGREE = omega (arith, r.few, e) in
    let y : count ≤ 2 ^ 32 = omega arith in
    let m : degree * count ≤ MAX_DEGREE * 2 ^ 32 = mul-le-mul {n₁ = degree} {m₁ = count} {n₂ = MAX_DEGREE} {m₂ = 2 ^ 32} x y in
    let g = sum_by_more (λ (p : ℕ × ℕ). p.0 * p.1) pairs i (0, 0) l in
    let p : degree * count ≡ (pair_at pairs i).0 * (pair_at pairs i).1 = ap (λ (x : ℕ). x * count) e ∙ ap (λ (x : ℕ). (pair_at pairs i).0 * x) f in
    record {
      fits = omega (arith, m, d, r.few, s.small);
      next = record { counted = omega (arith, g, p, s.counted); small = omega (arith, m, s.small) };
    }

pub summed_end : (pairs : List (ℕ × ℕ)) (sum i : ℕ) → length pairs ≤ i → IsSummed pairs sum i → sum ≡ degree_sum pairs
summed_end pairs sum i e s = s.counted ∙ ap degree_sum (take_all i pairs e)

-- where all degrees are even, so is their sum
even_times : (degree count : ℕ) → degree % 2 ≡ 0 → (degree * count) % 2 ≡ 0
even_times degree zero e = let a : degree * 0 ≡ 0 = omega arith in ap (λ (x : ℕ). x % 2) a
even_times degree (suc count) e =
    let before = even_times degree count e in
    let a : degree * suc count ≡ degree * count + degree = omega arith in
    omega (arith, before, e, a)

pub degree_sum-even : (pairs : List (ℕ × ℕ)) → ((k : ℕ) → k < length pairs → (pair_at pairs k).0 % 2 ≡ 0) → degree_sum pairs % 2 ≡ 0
degree_sum-even [] even = refl
degree_sum-even (p ∷ pairs) even =
    let here = even_times p.0 p.1 (even 0 (omega arith)) in
    let rest = degree_sum-even pairs (λ k l. even (suc k) (omega arith)) in
    let whole = sum_by-cons (λ (q : ℕ × ℕ). q.0 * q.1) p pairs in
    omega (arith, here, rest, whole)
