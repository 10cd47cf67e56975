-- There is one least number that breaks a rule.
use Rattle.std.proofs.Common.{◌≡◌, ℕ, inl, inr}
use Rattle.std.proofs.lemmas.Bool.{cases_order}
use Rattle.pm_perm.specs.Least.{IsLeast}

-- where no number both keeps the rule and breaks it
pub least_is_unique : (size : ℕ) (Keeps Breaks : ℕ → Type 0) → ((k : ℕ) → Keeps k → Breaks k → ⊥) → (a b : ℕ) → IsLeast size Keeps Breaks a → IsLeast size Keeps Breaks b → a ≡ b
least_is_unique size Keeps Breaks apart a b one other = elim (cases_order a b) [
  | inl same ↦ same
  | inr differ ↦ elim differ [ inl less ↦ absurd (apart a (other.least a less) one.breaks) | inr more ↦ absurd (apart b (one.least b more) other.breaks) ]
]
