-- Laws of the word of a plane tree with bud patterns, by the kinds of its objects: it is that of a blossoming tree, with as
-- many letters, leaves and nodes of each degree as the kinds say.
use Rattle.std.proofs.Common.{◌≡◌, ℕ, zero, suc, ◌-◌, ◌*◌, ◌/◌, ◌<◌, ◌≤◌, ◌==◌, cond, inl, inr, List, [], ◌∷◌, get_or, length, All, count_by, refl, ap, sym, ◌∙◌, arith, eq-eqb, ne_eqb}
use Rattle.std.proofs.lemmas.Bool.{cases_eq}
use Rattle.std.proofs.lemmas.List.{length-map}
use Rattle.std.proofs.lemmas.List.Elements.{All-head, All-map, All-tail}
use Rattle.std.proofs.lemmas.List.Sums.{sum_by-cons}
use Rattle.pm_limits.specs.declared.TheConstants.{MAX_EDGES, MAX_DEGREE}
use Rattle.pm_trees.specs.Word.{contour}
use Rattle.pm_trees.specs.Blossoming.{IsBlossoming, leaves}
use Rattle.pm_trees.specs.Degrees.{nodes_of}
use Rattle.pm_brackets.proofs.Tally.{tally_is}
use Rattle.pm_trees.proofs.Weights.{weight}
use Rattle.pm_trees.proofs.Rings.{of_degree, of_degree_is, nodes_weight, bad, bad_is}
use Rattle.pm_planting.specs.Kinds.{IsKind, IsWordOfKinds, half_of, halves_in}
use Rattle.pm_planting.specs.declared.kind.Kind.{Kind}
use Rattle.pm_planting.specs.declared.kind.Kind.TheVariants.{Leaf, Node}
use Rattle.pm_planting.proofs.KindSides.{kinds_root}
use Rattle.pm_planting.proofs.Rows.{object_value, object_value_leaf, object_value_node, total, total-nil, total-cons}
use Rattle.pm_planting.proofs.RootRows.{root_length, root_leaves, root_weight, root_blossoming}

-- 1 at the nodes of the degree
object_of_degree : (half object_half : ℕ) → 0 < half → object_value (of_degree (2 * half)) object_half ≡ cond (object_half == half) 1 0
object_of_degree half zero s =
    let c : cond {A = ℕ} (0 == half) 1 0 ≡ 0 = rw (ne_eqb 0 half (λ e. omega arith)) refl in
    object_value_leaf (of_degree (2 * half)) ∙ sym c
object_of_degree half (suc buds) s =
    let a = object_value_node (of_degree (2 * half)) buds in
    let b = of_degree_is (2 * half) (2 * suc buds) buds in
    elim (cases_eq (suc buds) half) [
      | inl e ↦
          let c : cond {A = ℕ} (suc buds == half) 1 0 ≡ 1 = rw (eq-eqb (suc buds) half e) refl in
          let d : cond {A = ℕ} (2 * suc buds == 2 * half) 1 0 ≡ 1 = rw (eq-eqb (2 * suc buds) (2 * half) (omega arith)) refl in
          omega (arith, a, b, c, d)
      | inr n ↦
          let c : cond {A = ℕ} (suc buds == half) 1 0 ≡ 0 = rw (ne_eqb (suc buds) half n) refl in
          let d : cond {A = ℕ} (2 * suc buds == 2 * half) 1 0 ≡ 0 = rw (ne_eqb (2 * suc buds) (2 * half) (λ e. n (omega arith))) refl in
          omega (arith, a, b, c, d)
    ]

total_of_degree : (half : ℕ) (halves : List ℕ) → 0 < half → total (of_degree (2 * half)) halves ≡ count_by (λ y. y == half) halves
total_of_degree half [] s = total-nil (of_degree (2 * half))
total_of_degree half (object_half ∷ halves) s =
    let h = total_of_degree half halves s in
    let a = total-cons (of_degree (2 * half)) object_half halves in
    let b = object_of_degree half object_half s in
    let c = sum_by-cons (λ (y : ℕ). cond (y == half) 1 0) object_half halves in
    omega (arith, a, b, c, h)

-- nothing at any object
total_none : (f : ℕ → ℕ → ℕ) (halves : List ℕ) → All (λ half. object_value f half ≡ 0) halves → total f halves ≡ 0
total_none f [] z = total-nil f
total_none f (half ∷ halves) z =
    let h = total_none f halves (All-tail (λ half. object_value f half ≡ 0) half halves z) in
    let a = total-cons f half halves in
    let b = All-head (λ half. object_value f half ≡ 0) half halves z in
    omega (arith, a, b, h)

object_of_no_degree : (d object_half : ℕ) → ((half : ℕ) → 0 < half → d ≡ 2 * half → ⊥) → object_value (of_degree d) object_half ≡ 0
object_of_no_degree d zero n = object_value_leaf (of_degree d)
object_of_no_degree d (suc buds) n =
    let c : cond {A = ℕ} (2 * suc buds == d) 1 0 ≡ 0 = rw (ne_eqb (2 * suc buds) d (λ e. n (suc buds) (omega arith) (sym e))) refl in
    object_value_node (of_degree d) buds ∙ of_degree_is d (2 * suc buds) buds ∙ c

object_bad : (half : ℕ) → half ≤ MAX_DEGREE / 2 → object_value bad half ≡ 0
object_bad zero l = object_value_leaf bad
object_bad (suc buds) l =
    let a = object_value_node bad buds in
    let b = bad_is (2 * suc buds) buds in
    omega (arith, a, b, l)

pub half_few : (kind : Kind) → IsKind kind → half_of kind ≤ MAX_DEGREE / 2
half_few Leaf is = omega arith
half_few (Node half rank) is = is.0.few

pub halves_few : (kinds : List Kind) → All IsKind kinds → All (λ half. half ≤ MAX_DEGREE / 2) (halves_in kinds)
halves_few kinds each = All-map (λ half. half ≤ MAX_DEGREE / 2) half_of kinds (λ k other less. half_few (get_or kinds k other) (each k other less))

module _ (kinds : List Kind) (word : List ℕ) (h : IsWordOfKinds kinds word) where
  pub kinds_length : suc (length word) ≡ 2 * (length kinds - 1)
  kinds_length =
      let l = root_length (halves_in kinds) word (kinds_root kinds word h) in
      let long = length-map kinds half_of in
      omega (arith, l, long)

  -- a sum over the nodes
  kinds_weight : (f : ℕ → ℕ → ℕ) → weight f (contour word) ≡ total f (halves_in kinds)
  kinds_weight f = root_weight (halves_in kinds) word f (kinds_root kinds word h)

  pub kinds_nodes : (half : ℕ) → 0 < half → nodes_of word (2 * half) ≡ count_by (λ y. y == half) (halves_in kinds)
  kinds_nodes half some = nodes_weight word (2 * half) ∙ kinds_weight (of_degree (2 * half)) ∙ total_of_degree half (halves_in kinds) some

  pub kinds_no_odd : (d : ℕ) → ((half : ℕ) → 0 < half → d ≡ 2 * half → ⊥) → nodes_of word d ≡ 0
  kinds_no_odd d n =
      nodes_weight word d ∙ kinds_weight (of_degree d) ∙ total_none (of_degree d) (halves_in kinds) (λ k other less. object_of_no_degree d (get_or (halves_in kinds) k other) n)

  pub kinds_leaves : leaves word ≡ suc (count_by (λ y. y == 0) (halves_in kinds))
  kinds_leaves = root_leaves (halves_in kinds) word (kinds_root kinds word h) ∙ ap suc (tally_is 0 (halves_in kinds))

  pub kinds_blossoming : All (λ half. half ≤ MAX_DEGREE / 2) (halves_in kinds) → length kinds ≤ suc MAX_EDGES → IsBlossoming word
  kinds_blossoming within few =
      let none = total_none bad (halves_in kinds) (λ k other less. object_bad (get_or (halves_in kinds) k other) (within k other less)) in
      let long = length-map kinds half_of in
      root_blossoming (halves_in kinds) word (kinds_root kinds word h) none (omega (arith, long, few))
