-- Where a tree's word in preorder ends is told by the word.
use Rattle.std.proofs.Common.{◌≡◌, Bool, true, false, List, ◌∷◌, ◌++◌, refl, sym, ap₂, ◌∙◌, append_assoc}
use Rattle.pm_remy.specs.Tree.{Tree, leaf, fork, shape_of}

-- the same shape comes first, and the same nodes behind it
pub record IsSamePrefix (t u : Tree) (word other : List Bool) : Type 0 where
  pub shapes : shape_of t ≡ shape_of u
  pub rests : word ≡ other

pub same_prefix : (t u : Tree) (word other : List Bool) → shape_of t ++ word ≡ shape_of u ++ other → IsSamePrefix t u word other
same_prefix (leaf m) (leaf n) word other e = record { shapes = refl; rests = cc }
same_prefix (leaf m) (fork l r) word other e = absurd (let clash : false ≡ true = cc in cc)
same_prefix (fork l r) (leaf n) word other e = absurd (let clash : true ≡ false = cc in cc)
same_prefix (fork l r) (fork i j) word other e =
    let below : (shape_of l ++ shape_of r) ++ word ≡ (shape_of i ++ shape_of j) ++ other = cc in
    let left = same_prefix l i (shape_of r ++ word) (shape_of j ++ other) (sym (append_assoc (shape_of l) (shape_of r) word) ∙ below ∙ append_assoc (shape_of i) (shape_of j) other) in
    let right = same_prefix r j word other left.rests in
    record { shapes = ap₂ (λ (v w : List Bool). true ∷ (v ++ w)) left.shapes right.shapes; rests = right.rests }
