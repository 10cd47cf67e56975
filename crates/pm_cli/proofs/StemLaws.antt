-- The laws of stem trees, as a kind of trees that are closed.
use Rattle.std.proofs.Common.{◌≡◌, ℕ, ◌-◌, ◌*◌, ◌/◌, inl, inr, List, [], ◌∷◌, length, refl, ap, sym, ◌∙◌, arith}
use Rattle.std.specs.Prelude.{IsTrue, Option, Some, None}
use Rattle.std.proofs.lemmas.Bool.{cases_eq, cases_lt}
use Rattle.pm_limits.specs.declared.TheConstants.{MAX_EDGES}
use Rattle.pm_text.specs.Broken.{newline}
use Rattle.pm_brackets.specs.Word.{is_letter_of}
use Rattle.pm_brackets.proofs.Least.{first_same}
use Rattle.pm_map.specs.Rotation.{RotationSystem, structure_of}
use Rattle.pm_tri.specs.declared.balance.Imbalance.{Imbalance}
use Rattle.pm_tri.specs.declared.balance.Imbalance.TheVariants as imbalance
use Rattle.pm_tri.specs.declared.letters.TheConstants.{STEM}
use Rattle.pm_tri.specs.Balance.{IsWhyNotBalanced}
use Rattle.pm_tri.specs.StemTree.{BreaksStems, IsInOrder, IsStemTree, contour, stems as stems_of}
use Rattle.pm_tri.proofs.OneReason.{one_reason}
use Rattle.pm_tri.proofs.SomeReason.{some_reason}
use Rattle.pm_triclose.proofs.SameClosures.{closures_same}
use Rattle.pm_triclose.proofs.SomeClosures.{balanced_closes}
use Rattle.pm_triclose.proofs.TreeClosures.{closures_maps}
use Rattle.pm_cli.specs.declared.refusal.Limit.TheVariants.{Letters}
use Rattle.pm_cli.specs.declared.refusal.Refusal.{Refusal}
use Rattle.pm_cli.specs.declared.refusal.Refusal.TheVariants.{Limited, Tree}
use Rattle.pm_cli.specs.declared.refusal.TreeRule.TheVariants.{Stems, Closes, Follows}
use Rattle.pm_cli.specs.Lines.{status_of_refusal}
use Rattle.pm_cli.specs.TreeKinds.{ClosesStems, RefusesStems, too_long, stems, closes, follows, stem_trees}
use Rattle.pm_cli.proofs.FirstPlaces.{first_or_none, node_within}
use Rattle.pm_cli.proofs.MapRelations.{same_some}
use Rattle.pm_cli.proofs.TreeKindLaws.{IsTreeKind, tree_words}

no_newline : IsTrue (is_letter_of (STEM ∷ []) newline) → ⊥
no_newline h = cc

not_both : (word : List ℕ) (map : RotationSystem) (refusal : Refusal) → ClosesStems word map → RefusesStems word refusal → ⊥
not_both word map _ x (too_long letters y) = let short = x.tree.short in let long = y.long in omega arith
not_both word map _ x (stems place y) = y.first.here.breaks (x.tree.stems place y.first.here.is_node)
not_both word map _ x (closes side tree y) = x.balanced.is_before.is_free.open_ended side y
not_both word map _ x (follows stem tree y) = y.not_directly x.balanced

-- how a reason why a tree isn't balanced is told
abbrev told_imbalance : Imbalance → Refusal
told_imbalance (imbalance.Closes side) = Tree (Closes side)
told_imbalance (imbalance.Follows stem) = Tree (Follows stem)

one_imbalance : (word : List ℕ) (a b : Imbalance) → IsStemTree word → IsWhyNotBalanced (contour word) (Some a) → IsWhyNotBalanced (contour word) (Some b) → told_imbalance a ≡ told_imbalance b
one_imbalance word a b tree x y = ap told_imbalance (same_some (one_reason word (Some a) (Some b) tree x y))

one_rule : (word : List ℕ) (a b : Refusal) → RefusesStems word a → RefusesStems word b → a ≡ b
one_rule word _ _ (too_long m x) (too_long n y) = ap (λ (k : ℕ). Limited (Letters k)) (x.counted ∙ sym y.counted)
one_rule word _ _ (too_long m x) (stems q y) = absurd (let long = x.long in let short = y.short in omega arith)
one_rule word _ _ (too_long m x) (closes q tree y) = absurd (let long = x.long in let short = tree.short in omega arith)
one_rule word _ _ (too_long m x) (follows q tree y) = absurd (let long = x.long in let short = tree.short in omega arith)
one_rule word _ _ (stems p x) (too_long n y) = absurd (let long = y.long in let short = x.short in omega arith)
one_rule word _ _ (stems p x) (stems q y) = ap (λ (k : ℕ). Tree (Stems k)) (first_same (BreaksStems (contour word)) p q x.first y.first)
one_rule word _ _ (stems p x) (closes q tree y) = absurd (x.first.here.breaks (tree.stems p x.first.here.is_node))
one_rule word _ _ (stems p x) (follows q tree y) = absurd (x.first.here.breaks (tree.stems p x.first.here.is_node))
one_rule word _ _ (closes p tree x) (too_long n y) = absurd (let long = y.long in let short = tree.short in omega arith)
one_rule word _ _ (closes p tree x) (stems q y) = absurd (y.first.here.breaks (tree.stems q y.first.here.is_node))
one_rule word _ _ (closes p tree x) (closes q other y) = one_imbalance word (imbalance.Closes p) (imbalance.Closes q) tree x y
one_rule word _ _ (closes p tree x) (follows q other y) = one_imbalance word (imbalance.Closes p) (imbalance.Follows q) tree x y
one_rule word _ _ (follows p tree x) (too_long n y) = absurd (let long = y.long in let short = tree.short in omega arith)
one_rule word _ _ (follows p tree x) (stems q y) = absurd (y.first.here.breaks (tree.stems q y.first.here.is_node))
one_rule word _ _ (follows p tree x) (closes q other y) = one_imbalance word (imbalance.Follows p) (imbalance.Closes q) tree x y
one_rule word _ _ (follows p tree x) (follows q other y) = one_imbalance word (imbalance.Follows p) (imbalance.Follows q) tree x y

module _ (word : List ℕ) (order : IsInOrder word) (closed : (map : RotationSystem) → ClosesStems word map → ⊥) (refused : (refusal : Refusal) → RefusesStems word refusal → ⊥) where
  reason : IsStemTree word → (why : Option Imbalance) → IsWhyNotBalanced (contour word) why → ⊥
  reason tree None balanced =
      let closing = balanced_closes word tree balanced in closed (record { sigma = closing.0; root = 0 }) (record { tree = tree; balanced = balanced; is_closed = closing.1 })
  reason tree (Some (imbalance.Closes side)) is = refused (Tree (Closes side)) (closes side tree is)
  reason tree (Some (imbalance.Follows stem)) is = refused (Tree (Follows stem)) (follows stem tree is)

  some : ⊥
  some = elim (cases_lt (4 * (MAX_EDGES / 3) - 3) (length word)) [
    | inl long ↦ refused (Limited (Letters (length word))) (too_long (length word) (record { in_order = order; counted = refl; long = long }))
    | inr short ↦
        first_or_none (BreaksStems (contour word)) (length (contour word)) (λ node breaks. node_within (contour word) node (omega arith) breaks.is_node)
        (λ none.
        let tree : IsStemTree word = record {
          in_order = order;
          short = short;
          stems = λ node is. elim (cases_eq (stems_of (contour word) node) 2) [ inl e ↦ e | inr ne ↦ absurd (none node (record { is_node = is; breaks = ne })) ];
        } in
        some_reason word tree (reason tree))
        (λ node first. refused (Tree (Stems node)) (stems node (record { in_order = order; short = short; first = first })))
  ]

no_usage : (word : List ℕ) (refusal : Refusal) → RefusesStems word refusal → status_of_refusal refusal ≡ 2 → ⊥
no_usage word _ (too_long letters x) e = cc
no_usage word _ (stems place x) e = cc
no_usage word _ (closes side tree x) e = cc
no_usage word _ (follows stem tree x) e = cc

pub stem_laws : IsTreeKind stem_trees
stem_laws = record {
  words = tree_words (STEM ∷ []) STEM no_newline refl refl refl;
  rooted = λ word map x. closures_maps word map x.tree x.balanced x.is_closed;
  alike = λ word one other x y. closures_same word (structure_of one) (structure_of other) x.tree x.balanced x.is_closed y.is_closed;
  not_both = not_both;
  one_rule = one_rule;
  some = some;
  no_usage = no_usage;
}
