-- The root node of a tree: its kind, and the trees in the slots of its pattern.
use Rattle.std.proofs.Common.{◌≡◌, ℕ, List, [], ◌∷◌, ◌++◌, length, refl, ap, ◌∙◌, append-nil, arith}
use Rattle.pm_trees.specs.declared.letters.TheConstants.{LEAF}
use Rattle.pm_brackets.specs.declared.letters.TheConstants.{OPEN, CLOSE}
use Rattle.pm_planting.specs.Kinds.{AreSides, HasKind, IsWordOfKinds, filled, half_of}
use Rattle.pm_planting.specs.Kinds.AreSides.{none, leaf, node}
use Rattle.pm_planting.specs.declared.kind.Kind.{Kind}
use Rattle.pm_planting.proofs.SideTexts.{same_push}

-- no trees have no objects
pub no_kinds : (kinds : List Kind) (texts : List (List ℕ)) → AreSides kinds texts → texts ≡ [] → kinds ≡ []
no_kinds _ _ none e = refl
no_kinds _ _ (leaf later texts h) e = absurd cc
no_kinds _ _ (node kind under later pattern sides texts p h l k) e = absurd cc

pub record IsRootNode (kinds : List Kind) (word : List ℕ) : Type 0 where
  pub kind : Kind
  pub below : List Kind
  pub pattern : List ℕ
  pub sides : List (List ℕ)
  pub kinds_are : kinds ≡ kind ∷ below
  pub has_kind : HasKind kind pattern
  pub are_sides : AreSides below sides
  pub counted : length sides ≡ half_of kind
  pub word_is : filled pattern sides ≡ word

root_of : (kinds : List Kind) (texts : List (List ℕ)) (word : List ℕ) → AreSides kinds texts → texts ≡ (OPEN ∷ word ++ CLOSE ∷ []) ∷ [] → IsRootNode kinds word
root_of _ _ word none e = absurd cc
root_of _ _ word (leaf later texts h) e = absurd (let a : LEAF ≡ OPEN = cc in omega (arith, a))
root_of _ _ word (node kind under later pattern sides texts p h l k) e =
    let alone : later ≡ [] = no_kinds later texts k cc in
    record {
      kind = kind;
      below = under;
      pattern = pattern;
      sides = sides;
      kinds_are = ap (λ (ks : List Kind). kind ∷ under ++ ks) alone ∙ ap (λ (ks : List Kind). kind ∷ ks) (append-nil under);
      has_kind = p;
      are_sides = h;
      counted = l;
      word_is = (same_push (filled pattern sides) word CLOSE CLOSE cc).lists;
    }

pub root_node : (kinds : List Kind) (word : List ℕ) → IsWordOfKinds kinds word → IsRootNode kinds word
root_node kinds word h = root_of kinds ((OPEN ∷ word ++ CLOSE ∷ []) ∷ []) word h refl
