-- Of two chosen places the one that has a number, told by the number.
use Rattle.std.proofs.Common.{◌≡◌, ℕ, ◌<◌, sym, subst, arith}
use Rattle.pm_brackets.specs.PlantedAt.{AreTwo, IsChosen}
use Rattle.pm_brackets.proofs.PlantedAt.{earlier_chosen, later_chosen}

module _ (chosen : ℕ → Type 0) (two : AreTwo chosen) (number place : ℕ) where
  pub first_chosen : number ≡ 0 → place ≡ two.earlier → IsChosen chosen number place
  first_chosen none here = subst (λ (k : ℕ). IsChosen chosen k place) (sym none) (subst (IsChosen chosen 0) (sym here) (earlier_chosen chosen two))

  pub second_chosen : number < 2 → (number ≡ 0 → ⊥) → place ≡ two.later → IsChosen chosen number place
  second_chosen low some here = let one : 1 ≡ number = omega arith in subst (λ (k : ℕ). IsChosen chosen k place) one (subst (IsChosen chosen 1) (sym here) (later_chosen chosen two))
