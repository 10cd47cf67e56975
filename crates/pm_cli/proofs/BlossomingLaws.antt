-- The laws of blossoming trees, as a kind of trees that are closed.
use Rattle.std.proofs.Common.{◌≡◌, ℕ, ◌*◌, inl, inr, List, length, refl, ap, sym, ◌∙◌, arith}
use Rattle.std.specs.Prelude.{IsTrue}
use Rattle.std.proofs.lemmas.Bool.{cases_lt}
use Rattle.pm_limits.specs.declared.TheConstants.{MAX_EDGES}
use Rattle.pm_text.specs.Broken.{newline}
use Rattle.pm_brackets.proofs.Least.{first_same}
use Rattle.pm_trees.specs.declared.letters.TheConstants.{LEAF}
use Rattle.pm_trees.specs.Blossoming.{IsBlossoming}
use Rattle.pm_trees.specs.Node.{BreaksDegree, BreaksBuds}
use Rattle.pm_trees.specs.Word.{IsInOrder, contour, is_letter, leaf_and_bud}
use Rattle.pm_trees.proofs.Walk.{degrees_from, buds_from}
use Rattle.pm_match.specs.Pair.{IsBalanced}
use Rattle.pm_match.proofs.Meeting.{pair_unique_leaf}
use Rattle.pm_map.specs.Rotation.{RotationSystem}
use Rattle.pm_close.proofs.PlaneMap.{rooted_closure}
use Rattle.pm_close.proofs.RootedClosure.{one_closure}
use Rattle.pm_close.proofs.SomeClosure.{each_tree_closes}
use Rattle.pm_cli.specs.declared.refusal.Limit.TheVariants.{Letters}
use Rattle.pm_cli.specs.declared.refusal.Refusal.{Refusal}
use Rattle.pm_cli.specs.declared.refusal.Refusal.TheVariants.{Limited, Tree}
use Rattle.pm_cli.specs.declared.refusal.TreeRule.TheVariants.{Degree, Buds, Matched}
use Rattle.pm_cli.specs.Lines.{status_of_refusal}
use Rattle.pm_cli.specs.TreeKinds.{ClosesBlossoming, RefusesBlossoming, too_many, degree, buds, matched, blossoming_trees}
use Rattle.pm_cli.proofs.FirstPlaces.{first_or_none, node_within}
use Rattle.pm_cli.proofs.TaskLaws.{same_map}
use Rattle.pm_cli.proofs.TreeKindLaws.{IsTreeKind, tree_words}

no_newline : IsTrue (is_letter newline) → ⊥
no_newline h = cc

not_both : (word : List ℕ) (map : RotationSystem) (refusal : Refusal) → ClosesBlossoming word map → RefusesBlossoming word refusal → ⊥
not_both word map _ x (too_many letters y) = let short = x.blossoming.short in let long = y.long in omega arith
not_both word map _ x (degree place y) = y.first.here.breaks (x.blossoming.degrees place y.first.here.is_node)
not_both word map _ x (buds place y) = y.first.here.breaks (x.blossoming.buds place y.first.here.is_node)
not_both word map _ x (matched bud tree y) = x.balanced.alone bud y

one_rule : (word : List ℕ) (a b : Refusal) → RefusesBlossoming word a → RefusesBlossoming word b → a ≡ b
one_rule word _ _ (too_many m x) (too_many n y) = ap (λ (k : ℕ). Limited (Letters k)) (x.counted ∙ sym y.counted)
one_rule word _ _ (too_many m x) (degree q y) = absurd (let long = x.long in let short = y.short in omega arith)
one_rule word _ _ (too_many m x) (buds q y) = absurd (let long = x.long in let short = y.short in omega arith)
one_rule word _ _ (too_many m x) (matched q tree y) = absurd (let long = x.long in let short = tree.short in omega arith)
one_rule word _ _ (degree p x) (too_many n y) = absurd (let long = y.long in let short = x.short in omega arith)
one_rule word _ _ (degree p x) (degree q y) = ap (λ (k : ℕ). Tree (Degree k)) (first_same (BreaksDegree (contour word)) p q x.first y.first)
one_rule word _ _ (degree p x) (buds q y) = absurd (x.first.here.breaks (y.degrees p x.first.here.is_node))
one_rule word _ _ (degree p x) (matched q tree y) = absurd (x.first.here.breaks (tree.degrees p x.first.here.is_node))
one_rule word _ _ (buds p x) (too_many n y) = absurd (let long = y.long in let short = x.short in omega arith)
one_rule word _ _ (buds p x) (degree q y) = absurd (y.first.here.breaks (x.degrees q y.first.here.is_node))
one_rule word _ _ (buds p x) (buds q y) = ap (λ (k : ℕ). Tree (Buds k)) (first_same (BreaksBuds (contour word)) p q x.first y.first)
one_rule word _ _ (buds p x) (matched q tree y) = absurd (x.first.here.breaks (tree.buds p x.first.here.is_node))
one_rule word _ _ (matched p tree x) (too_many n y) = absurd (let long = y.long in let short = tree.short in omega arith)
one_rule word _ _ (matched p tree x) (degree q y) = absurd (y.first.here.breaks (tree.degrees q y.first.here.is_node))
one_rule word _ _ (matched p tree x) (buds q y) = absurd (y.first.here.breaks (tree.buds q y.first.here.is_node))
one_rule word _ _ (matched p tree x) (matched q other y) = ap (λ (k : ℕ). Tree (Matched k)) (pair_unique_leaf (contour word) p q 0 x y)

module _ (word : List ℕ) (order : IsInOrder word) (closes : (map : RotationSystem) → ClosesBlossoming word map → ⊥) (refuses : (refusal : Refusal) → RefusesBlossoming word refusal → ⊥) where
  no_tree : IsBlossoming word → ⊥
  no_tree tree =
      let balanced : IsBalanced (contour word) = record { leaf = refl; alone = λ bud pair. refuses (Tree (Matched bud)) (matched bud tree pair) } in
      let closing = each_tree_closes word tree in
      closes closing.0 (record { blossoming = tree; balanced = balanced; is_closed = closing.1 })

  some : ⊥
  some = elim (cases_lt (length word) (2 * MAX_EDGES)) [
    | inl short ↦
        first_or_none (BreaksDegree (contour word)) (length (contour word)) (λ node breaks. node_within (contour word) node (omega arith) breaks.is_node)
        (λ none.
        let degrees = degrees_from word none in
        first_or_none (BreaksBuds (contour word)) (length (contour word)) (λ node breaks. node_within (contour word) node (omega arith) breaks.is_node)
        (λ no_other. no_tree (record { in_order = order; short = short; degrees = degrees; buds = buds_from word no_other }))
        (λ node first. refuses (Tree (Buds node)) (buds node (record { in_order = order; short = short; degrees = degrees; first = first }))))
        (λ node first. refuses (Tree (Degree node)) (degree node (record { in_order = order; short = short; first = first })))
    | inr long ↦ refuses (Limited (Letters (length word))) (too_many (length word) (record { in_order = order; counted = refl; long = long }))
  ]

no_usage : (word : List ℕ) (refusal : Refusal) → RefusesBlossoming word refusal → status_of_refusal refusal ≡ 2 → ⊥
no_usage word _ (too_many letters x) e = cc
no_usage word _ (degree place x) e = cc
no_usage word _ (buds place x) e = cc
no_usage word _ (matched bud tree x) e = cc

pub blossoming_laws : IsTreeKind blossoming_trees
blossoming_laws = record {
  words = tree_words leaf_and_bud LEAF no_newline refl refl refl;
  rooted = λ word map x. rooted_closure word map x.blossoming x.balanced x.is_closed;
  alike = λ word one other x y. same_map one other (one_closure word one other x.blossoming x.is_closed y.is_closed);
  not_both = not_both;
  one_rule = one_rule;
  some = some;
  no_usage = no_usage;
}
