-- Of each degree there are as many vertices where the darts are renumbered.
use Rattle.std.proofs.Common.{◌≡◌, ℕ, ◌/◌, ◌<◌, ◌≤◌, Bool, not, inl, inr, nat_eq, refl, sym, ◌∙◌, ap, subst, arith}
use Rattle.std.proofs.lemmas.Bool.{cases_eq}
use Rattle.std.proofs.Math.Nat.{mul-div_cancel_left}
use Rattle.pm_perm.specs.Count.{count_below}
use Rattle.pm_perm.proofs.Counts.{count_below-same, count_below-image, count_below-parts}
use Rattle.pm_map.specs.Structure.{Structure, IsStructure, CarriesTo, Same}
use Rattle.pm_map.specs.Classes.{degree_of, vertices_of_degree}
use Rattle.pm_map.proofs.DegreeCounts.{HasSize, has_size, degree_counts_darts}
use Rattle.pm_map.proofs.CarriedSizes.{size_carried}
use Rattle.pm_map.proofs.TableLemmas.{one_vertex, none_of_zero, times_vertices}

-- a dart's vertex has as many darts as before
degree_carried : (f : ℕ → ℕ) (a b : Structure) → CarriesTo f a b → IsStructure a → IsStructure b → (p : ℕ) → p < a.darts → degree_of b (f p) ≡ degree_of a p
degree_carried f a b c is also p less =
    let size : HasSize a.next p = has_size a.darts a.next p is.rotation less in
    let here = (degree_counts_darts a p size.size is less).0 size.is in
    let there = (degree_counts_darts b (f p) size.size also (subst (λ (n : ℕ). f p < n) c.darts (c.renumbers.stays p less))).0 (size_carried f a b c is.rotation p size.size less size.is) in
    there ∙ sym here

-- what holds of as many darts at least
no_fewer : (f : ℕ → ℕ) (a b : Structure) → CarriesTo f a b → IsStructure a → IsStructure b → (P : ℕ → Bool) → count_below (λ d. P (degree_of a d)) a.darts ≤ count_below (λ d. P (degree_of b d)) b.darts
no_fewer f a b c is also P =
    let image = count_below-image (λ d. P (degree_of b d)) f a.darts b.darts (λ k less. subst (λ (n : ℕ). f k < n) c.darts (c.renumbers.stays k less)) (λ j k l m e. c.renumbers.injective j k l m e) in
    let same = count_below-same (λ k. P (degree_of b (f k))) (λ d. P (degree_of a d)) a.darts (λ k less. ap P (degree_carried f a b c is also k less)) in
    omega (arith, image, same)

-- the darts at vertices of a degree are as many
darts_carried : (a b : Structure) → IsStructure a → IsStructure b → Same a b → (degree : ℕ) → count_below (λ d. nat_eq (degree_of b d) degree) b.darts ≡ count_below (λ d. nat_eq (degree_of a d) degree) a.darts
darts_carried a b is also same degree =
    let more = no_fewer same.0 a b same.1 is also (λ n. nat_eq n degree) in
    let others = no_fewer same.0 a b same.1 is also (λ n. not (nat_eq n degree)) in
    let here = count_below-parts (λ d. not (nat_eq (degree_of a d) degree)) (λ d. nat_eq (degree_of a d) degree) a.darts (λ k less. refl) in
    let there = count_below-parts (λ d. not (nat_eq (degree_of b d) degree)) (λ d. nat_eq (degree_of b d) degree) b.darts (λ k less. refl) in
    omega (arith, more, others, here, there, same.1.darts)

pub degrees_carried : (a b : Structure) → IsStructure a → IsStructure b → Same a b → (degree : ℕ) → vertices_of_degree b degree ≡ vertices_of_degree a degree
degrees_carried a b is also same degree = elim (cases_eq degree 0) [
  | inl zero_is ↦ ap (vertices_of_degree b) zero_is ∙ at_zero ∙ ap (vertices_of_degree a) (sym zero_is)
  | inr some ↦
      let positive : 0 < degree = omega (arith, some) in
      sym (mul-div_cancel_left (vertices_of_degree b degree) positive)
      ∙ ap (λ (n : ℕ). n / degree) (times_vertices b degree also ∙ darts_carried a b is also same degree ∙ sym (times_vertices a degree is))
      ∙ mul-div_cancel_left (vertices_of_degree a degree) positive
] where
  at_zero : vertices_of_degree b 0 ≡ vertices_of_degree a 0
  at_zero = elim (cases_eq a.darts 0) [
    | inl none ↦ one_vertex b (sym same.1.darts ∙ none) ∙ sym (one_vertex a none)
    | inr some ↦ none_of_zero b also (λ e. some (same.1.darts ∙ e)) ∙ sym (none_of_zero a is some)
  ]
