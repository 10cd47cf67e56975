-- The twin on edges that are picked, and the dart itself on the others.
use Rattle.std.proofs.Common.{◌≡◌, ℕ, ◌+◌, ◌<◌, inl, inr, Bool, true, false, not, cond, sym, ap, ◌∙◌, subst}
use Rattle.std.proofs.lemmas.Bool.{cases_Bool, cond-true, cond-false}
use Rattle.pm_perm.specs.Pairs.{IsInvolutionBelow, pairs}
use Rattle.pm_perm.proofs.BothNested.{pairs-parted}
use Rattle.pm_map.specs.Structure.{Structure, IsStructure}
use Rattle.pm_walk.proofs.Cutting.{IsCutting}

abbrev pub picked : Structure → (ℕ → Bool) → ℕ → ℕ
picked s pick d = cond (pick d) (s.twin d) d

pub picked-yes : (s : Structure) (pick : ℕ → Bool) (d : ℕ) → pick d ≡ true → picked s pick d ≡ s.twin d
picked-yes s pick d taken = cond-true (pick d) (s.twin d) d taken

pub picked-no : (s : Structure) (pick : ℕ → Bool) (d : ℕ) → pick d ≡ false → picked s pick d ≡ d
picked-no s pick d left = cond-false (pick d) (s.twin d) d left

-- it is its own inverse where twins are picked alike
pub picked-involutes : (s : Structure) (pick : ℕ → Bool) → IsStructure s → IsCutting s pick → IsInvolutionBelow s.darts (picked s pick)
picked-involutes s pick is alike = record {
  stays = λ d l. elim (cases_Bool (pick d)) [
    | inl is_picked ↦ subst (λ x. x < s.darts) (sym (picked-yes s pick d is_picked)) (is.twin_stays d l)
    | inr is_left ↦ subst (λ x. x < s.darts) (sym (picked-no s pick d is_left)) l
  ];
  twice = λ d l. elim (cases_Bool (pick d)) [
    | inl is_picked ↦ ap (picked s pick) (picked-yes s pick d is_picked) ∙ picked-yes s pick (s.twin d) (alike.both d l ∙ is_picked) ∙ is.twin_back d l
    | inr is_left ↦ ap (picked s pick) (picked-no s pick d is_left) ∙ picked-no s pick d is_left
  ];
}

-- the edges are those that are picked and the others
pub picked-parted : (s : Structure) (pick : ℕ → Bool) → pairs s.darts (picked s (λ d. not (pick d))) + pairs s.darts (picked s pick) ≡ pairs s.darts s.twin
picked-parted s pick = pairs-parted s.darts s.twin (picked s (λ d. not (pick d))) (picked s pick) (λ d l. elim (cases_Bool (pick d)) [
  | inl is_picked ↦ inr (picked-no s (λ e. not (pick e)) d (ap not is_picked), picked-yes s pick d is_picked)
  | inr is_left ↦ inl (picked-yes s (λ e. not (pick e)) d (ap not is_left), picked-no s pick d is_left)
])
