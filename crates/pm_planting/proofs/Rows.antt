-- Rows of letters in which brackets match and the nodes have these half degrees, and what is counted in them. The half
-- degrees are those of the row's objects in preorder: 0 stands for a leaf, and i for a node of degree 2i with i-1 buds.
use Rattle.std.proofs.Common.{◌≡◌, ℕ, zero, suc, ◌+◌, ◌*◌, List, [], ◌∷◌, ◌++◌, length, All, IsTrue, refl, ap, ap₂, ◌∙◌, arith, append_assoc, length-append, append-nil}
use Rattle.std.specs.List.{sum_by}
use Rattle.std.proofs.lemmas.List.Elements.{All-cons, All-append, All-nil}
use Rattle.std.proofs.lemmas.List.Sums.{sum_by-cons, sum_by-append}
use Rattle.pm_trees.specs.declared.letters.TheConstants.{LEAF, BUD}
use Rattle.pm_brackets.specs.declared.letters.TheConstants.{OPEN, CLOSE}
use Rattle.pm_trees.specs.Word.{is_letter}
use Rattle.pm_trees.specs.Node.{own_letters}
use Rattle.pm_brackets.proofs.Tally.{tally, tally-nil, tally_yes, tally_no, tally-append, tally_is}
use Rattle.pm_brackets.specs.Word.{IsOther}
use Rattle.pm_trees.proofs.Own.{own_length, own_buds, own_length_is, own_buds_is, own_length-nil, own_buds-nil, own_length_other_here, own_buds_bud_here, own_buds_other_here}
use Rattle.pm_brackets.proofs.Dyck.{IsDyck, dyck_join, bracket_then}
use Rattle.pm_brackets.proofs.Dyck.IsDyck.{empty, letter, bracket}
use Rattle.pm_trees.proofs.Weights.{value, value_is, inner, inner-nil, inner_other, inner_of_bracket, own_bracket}

-- the value at an object of this half degree: none at a leaf
pub object_value : (ℕ → ℕ → ℕ) → ℕ → ℕ
object_value f zero = 0
object_value f (suc buds) = f (2 * suc buds) buds

pub object_value_leaf : (f : ℕ → ℕ → ℕ) → object_value f 0 ≡ 0
unfolding object_value
object_value_leaf f = refl

pub object_value_node : (f : ℕ → ℕ → ℕ) (buds : ℕ) → object_value f (suc buds) ≡ f (2 * suc buds) buds
unfolding object_value
object_value_node f buds = refl

-- the sum of the values
pub total : (ℕ → ℕ → ℕ) → List ℕ → ℕ
total f halves = sum_by (object_value f) halves

pub total-nil : (f : ℕ → ℕ → ℕ) → total f [] ≡ 0
unfolding total
total-nil f = refl

pub total-cons : (f : ℕ → ℕ → ℕ) (half : ℕ) (halves : List ℕ) → total f (half ∷ halves) ≡ object_value f half + total f halves
unfolding total
total-cons f half halves = sum_by-cons (object_value f) half halves

pub total-append : (f : ℕ → ℕ → ℕ) (halves others : List ℕ) → total f (halves ++ others) ≡ total f halves + total f others
unfolding total
total-append f halves others = sum_by-append (object_value f) halves others

-- so many letters on the row's own level, of which so many are buds, and the half degrees of the objects
pub record IsRow (entries buds : ℕ) (halves row : List ℕ) : Type 0 where
  pub dyck : IsDyck row
  pub letters : All (λ x. IsTrue (is_letter x)) row
  pub leaves : tally LEAF row ≡ tally 0 halves
  pub long : length row + entries ≡ 2 * length halves + 2 * buds
  pub own_long : (after : List ℕ) → own_length 0 (row ++ after) ≡ entries + own_length 0 after
  pub own_budded : (after : List ℕ) → own_buds 0 (row ++ after) ≡ buds + own_buds 0 after
  pub weighs : (f : ℕ → ℕ → ℕ) (after : List ℕ) → inner f (row ++ after) ≡ total f halves + inner f after

pub row_nil : IsRow 0 0 [] []
row_nil = record {
  dyck = empty;
  letters = All-nil (λ x. IsTrue (is_letter x));
  leaves = let a = tally-nil LEAF in let b = tally-nil 0 in omega (arith, a, b);
  long = refl;
  own_long = λ after. omega arith;
  own_budded = λ after. omega arith;
  weighs = λ f after. let a = total-nil f in omega (arith, a);
}

plain_leaf : IsOther LEAF
plain_leaf = record { not_open = λ e. omega arith; not_close = λ e. omega arith }

plain_bud : IsOther BUD
plain_bud = record { not_open = λ e. omega arith; not_close = λ e. omega arith }

pub row_leaf : IsRow 1 0 (0 ∷ []) (LEAF ∷ [])
row_leaf = record {
  dyck = letter LEAF [] plain_leaf empty;
  letters = All-cons (λ x. IsTrue (is_letter x)) LEAF [] refl (All-nil (λ x. IsTrue (is_letter x)));
  leaves =
      let a = tally_yes LEAF LEAF [] refl in
      let b = tally-nil LEAF in
      let c = tally_yes 0 0 [] refl in
      let d = tally-nil 0 in
      omega (arith, a, b, c, d);
  long = refl;
  own_long = λ after. let a = own_length_other_here LEAF after plain_leaf in omega (arith, a);
  own_budded = λ after. let a = own_buds_other_here LEAF after plain_leaf (λ e. omega arith) in omega (arith, a);
  weighs = λ f after.
      let a = inner_other f LEAF after (λ e. omega arith) in
      let b = total-cons f 0 [] in
      let c = total-nil f in
      let d = object_value_leaf f in
      omega (arith, a, b, c, d);
}

pub row_bud : IsRow 1 1 [] (BUD ∷ [])
row_bud = record {
  dyck = letter BUD [] plain_bud empty;
  letters = All-cons (λ x. IsTrue (is_letter x)) BUD [] refl (All-nil (λ x. IsTrue (is_letter x)));
  leaves =
      let a = tally_no LEAF BUD [] (λ e. omega arith) in
      let b = tally-nil LEAF in
      let c = tally-nil 0 in
      omega (arith, a, b, c);
  long = refl;
  own_long = λ after. let a = own_length_other_here BUD after plain_bud in omega (arith, a);
  own_budded = λ after. let a = own_buds_bud_here BUD after refl in omega (arith, a);
  weighs = λ f after.
      let a = inner_other f BUD after (λ e. omega arith) in
      let b = total-nil f in
      omega (arith, a, b);
}

pub row_join : (d b e c : ℕ) (halves others xs ys : List ℕ) → IsRow d b halves xs → IsRow e c others ys → IsRow (d + e) (b + c) (halves ++ others) (xs ++ ys)
row_join d b e c halves others xs ys h k = record {
  dyck = dyck_join xs ys h.dyck k.dyck;
  letters = All-append (λ x. IsTrue (is_letter x)) xs ys h.letters k.letters;
  leaves = let a = tally-append LEAF xs ys in let i = tally-append 0 halves others in omega (arith, a, i, h.leaves, k.leaves);
  long = let a = length-append xs ys in let i = length-append halves others in omega (arith, a, i, h.long, k.long);
  own_long = λ after.
      let a = ap (own_length 0) (append_assoc xs ys after) in
      let p = h.own_long (ys ++ after) in
      let q = k.own_long after in
      omega (arith, a, p, q);
  own_budded = λ after.
      let a = ap (own_buds 0) (append_assoc xs ys after) in
      let p = h.own_budded (ys ++ after) in
      let q = k.own_budded after in
      omega (arith, a, p, q);
  weighs = λ f after.
      let a = ap (inner f) (append_assoc xs ys after) in
      let p = h.weighs f (ys ++ after) in
      let q = k.weighs f after in
      let r = total-append f halves others in
      omega (arith, a, p, q, r);
}

-- the value at a node with such a row
pub row_value : (entries buds : ℕ) (halves row : List ℕ) (f : ℕ → ℕ → ℕ) → suc entries ≡ 2 * suc buds → IsRow entries buds halves row → value f 1 row ≡ object_value f (suc buds)
row_value entries buds halves row f s h =
    let a = h.own_long [] in
    let b = h.own_budded [] in
    let e = append-nil row in
    let c = ap (own_length 0) e in
    let d = ap (own_buds 0) e in
    let i = own_length-nil 0 in
    let j = own_buds-nil 0 in
    let k = own_length_is 0 row in
    let l = own_buds_is 0 row in
    let m = tally_is BUD (own_letters 0 row) in
    let p : 1 + length (own_letters 0 row) ≡ 2 * suc buds = omega (arith, a, c, i, k, s) in
    let q : tally BUD (own_letters 0 row) ≡ buds = omega (arith, b, d, j, l, m) in
    let v = object_value_node f buds in
    let t = value_is f 1 row ∙ ap₂ f p q in
    omega (arith, t, v)

pub row_inner : (entries buds : ℕ) (halves row : List ℕ) (f : ℕ → ℕ → ℕ) → IsRow entries buds halves row → inner f row ≡ total f halves
row_inner entries buds halves row f h =
    let a = h.weighs f [] in
    let c = ap (inner f) (append-nil row) in
    let d = inner-nil f in
    omega (arith, a, c, d)

-- a node in its brackets
pub row_node : (entries buds : ℕ) (halves row : List ℕ) → suc entries ≡ 2 * suc buds → IsRow entries buds halves row → IsRow 1 0 (suc buds ∷ halves) (OPEN ∷ (row ++ CLOSE ∷ []))
row_node entries buds halves row s h = record {
  dyck = bracket row [] h.dyck empty;
  letters = All-cons (λ x. IsTrue (is_letter x)) OPEN (row ++ CLOSE ∷ []) refl
      (All-append (λ x. IsTrue (is_letter x)) row (CLOSE ∷ []) h.letters
      (All-cons (λ x. IsTrue (is_letter x)) CLOSE [] refl (All-nil (λ x. IsTrue (is_letter x)))));
  leaves =
      let a = tally_no LEAF OPEN (row ++ CLOSE ∷ []) (λ e. omega arith) in
      let b = tally-append LEAF row (CLOSE ∷ []) in
      let c = tally_no LEAF CLOSE [] (λ e. omega arith) in
      let d = tally-nil LEAF in
      let i = tally_no 0 (suc buds) halves (λ e. omega arith) in
      omega (arith, a, b, c, d, i, h.leaves);
  long = let a = length-append row (CLOSE ∷ []) in omega (arith, a, s, h.long);
  own_long = λ after.
      let a = ap (own_length 0) (bracket_then row [] after) in
      let b = ap length (own_bracket row after h.dyck) in
      let c = own_length_is 0 (OPEN ∷ (row ++ CLOSE ∷ after)) in
      let d = own_length_is 0 after in
      omega (arith, a, b, c, d);
  own_budded = λ after.
      let a = ap (own_buds 0) (bracket_then row [] after) in
      let b = ap (tally BUD) (own_bracket row after h.dyck) in
      let c = own_buds_is 0 (OPEN ∷ (row ++ CLOSE ∷ after)) in
      let d = own_buds_is 0 after in
      let e = tally_no BUD OPEN (own_letters 0 after) (λ w. omega arith) in
      let i = tally_is BUD (own_letters 0 after) in
      let j = tally_is BUD (own_letters 0 (OPEN ∷ (row ++ CLOSE ∷ after))) in
      omega (arith, a, b, c, d, e, i, j);
  weighs = λ f after.
      let a = ap (inner f) (bracket_then row [] after) in
      let b = inner_of_bracket f row after h.dyck in
      let c = row_value entries buds halves row f s h in
      let d = row_inner entries buds halves row f h in
      let e = total-cons f (suc buds) halves in
      omega (arith, a, b, c, d, e);
}
