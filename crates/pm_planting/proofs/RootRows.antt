-- The row of a root node: the half degrees of all objects, and what they say of the tree.
use Rattle.std.proofs.Common.{◌≡◌, ℕ, suc, ◌-◌, ◌*◌, ◌≤◌, List, [], ◌∷◌, ◌++◌, length, refl, ap, sym, subst, arith}
use Rattle.pm_limits.specs.declared.TheConstants.{MAX_EDGES}
use Rattle.pm_trees.specs.declared.letters.TheConstants.{LEAF}
use Rattle.pm_brackets.specs.declared.letters.TheConstants.{OPEN, CLOSE}
use Rattle.pm_trees.specs.Word.{contour}
use Rattle.pm_trees.specs.Blossoming.{IsBlossoming, leaves}
use Rattle.pm_brackets.proofs.Tally.{tally, tally_is, tally_yes, tally_no}
use Rattle.pm_brackets.proofs.Dyck.{matched_from_dyck}
use Rattle.pm_trees.proofs.Weights.{weight}
use Rattle.pm_trees.proofs.Rings.{contour_weight, bad, all_good}
use Rattle.pm_planting.proofs.Rows.{IsRow, total, total-cons, row_value, row_inner, row_node}

-- the row of a node of the first of these half degrees, and below it the nodes and leaves of the others
pub record IsRootRow (halves word : List ℕ) : Type 0 where
  pub entries : ℕ
  pub buds : ℕ
  pub below : List ℕ
  pub as_many : suc entries ≡ 2 * suc buds
  pub halves_are : halves ≡ suc buds ∷ below
  pub row : IsRow entries buds below word

-- the node in its brackets
pub root_side : (halves word : List ℕ) → IsRootRow halves word → IsRow 1 0 halves (OPEN ∷ (word ++ CLOSE ∷ []))
root_side halves word r = subst (λ (hs : List ℕ). IsRow 1 0 hs (OPEN ∷ (word ++ CLOSE ∷ []))) (sym r.halves_are) (row_node r.entries r.buds r.below word r.as_many r.row)

pub root_length : (halves word : List ℕ) → IsRootRow halves word → suc (length word) ≡ 2 * (length halves - 1)
root_length halves word r = let b = ap length r.halves_are in omega (arith, b, r.as_many, r.row.long)

pub root_leaves : (halves word : List ℕ) → IsRootRow halves word → leaves word ≡ suc (tally 0 halves)
root_leaves halves word r =
    let b = ap (tally 0) r.halves_are in
    let c = tally_no 0 (suc r.buds) r.below (λ e. omega arith) in
    let d = tally_yes LEAF LEAF word refl in
    let e = tally_is LEAF (contour word) in
    omega (arith, b, c, d, e, r.row.leaves)

-- a sum over the nodes
pub root_weight : (halves word : List ℕ) (f : ℕ → ℕ → ℕ) → IsRootRow halves word → weight f (contour word) ≡ total f halves
root_weight halves word f r =
    let a = contour_weight f word in
    let b = row_value r.entries r.buds r.below word f r.as_many r.row in
    let c = row_inner r.entries r.buds r.below word f r.row in
    let d = ap (total f) r.halves_are in
    let e = total-cons f (suc r.buds) r.below in
    omega (arith, a, b, c, d, e)

pub root_blossoming : (halves word : List ℕ) → IsRootRow halves word → total bad halves ≡ 0 → length halves ≤ suc MAX_EDGES → IsBlossoming word
root_blossoming halves word r none few =
    let l = root_length halves word r in
    let w = root_weight halves word bad r in
    let z : weight bad (contour word) ≡ 0 = omega (arith, w, none) in
    record {
      in_order = record { letters = r.row.letters; matched = matched_from_dyck word r.row.dyck };
      short = omega (arith, l, few);
      degrees = λ node n. (all_good word z node n).degree_is;
      buds = λ node n. (all_good word z node n).buds_are;
    }
