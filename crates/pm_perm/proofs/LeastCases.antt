-- Cases of properties that nothing need decide: enough where ⊥ is to be shown.
use Rattle.std.proofs.Common.{ℕ, zero, suc, ◌<◌, ◌≤◌, inl, inr, subst, arith}
use Rattle.std.proofs.lemmas.Bool.{cases_lt}
use Rattle.pm_perm.specs.Least.{IsLeast}

-- all numbers below the size keep the rule, or there is a least one that doesn't
pub all_or_least : (Keeps : ℕ → Type 0) (size : ℕ) → (((k : ℕ) → k < size → Keeps k) → ⊥) → ((n : ℕ) → IsLeast size Keeps (λ k. Keeps k → ⊥) n → ⊥) → ⊥
all_or_least Keeps zero all least = all (λ k h. absurd (omega arith))
all_or_least Keeps (suc size) all least =
    all_or_least Keeps size
    (λ below. least size (record { within = omega arith; breaks = λ keeps. all (λ k h. one_more k h below keeps); least = below }))
    (λ n is. least n (record { within = omega (arith, is.within); breaks = is.breaks; least = is.least })) where
      one_more : (k : ℕ) → k < suc size → ((j : ℕ) → j < size → Keeps j) → Keeps size → Keeps k
      one_more k h below keeps = elim (cases_lt k size) [ inl less ↦ below k less | inr last ↦ subst Keeps (omega (arith, h, last)) keeps ]

-- where 0 has the property, there is a greatest number within the bound that has it
pub some_greatest : (P : ℕ → Type 0) (bound : ℕ) → P 0 → ((k : ℕ) → P k → ((j : ℕ) → j ≤ bound → P j → j ≤ k) → ⊥) → ⊥
some_greatest P zero here found = found 0 here (λ j h _. h)
some_greatest P (suc bound) here found =
    some_greatest P bound here (λ k is top. found k is (λ j h other. at_most k j h top other)) where
      not_last : P (suc bound) → ⊥
      not_last last = found (suc bound) last (λ j h _. h)

      at_most : (k j : ℕ) → j ≤ suc bound → ((i : ℕ) → i ≤ bound → P i → i ≤ k) → P j → j ≤ k
      at_most k j h top other = elim (cases_lt j (suc bound)) [ inl less ↦ top j (omega (arith, less)) other | inr last ↦ absurd (not_last (subst P (omega (arith, h, last)) other)) ]
