-- The darts by kind: the root, buds and leaves on the edges that are cut, and brackets on the others.
use Rattle.std.proofs.Common.{◌≡◌, ◌≢◌, ℕ, suc, ◌<◌, true, false, inl, inr, List, refl, ap, ◌∙◌, eq-eqb, ne_eqb, arith}
use Rattle.std.specs.Prelude.{slice_index}
use Rattle.std.proofs.lemmas.Bool.{cases_lt, cases_eq, cases_Bool, lt-ltb, le-ltb}
use Rattle.pm_trees.specs.declared.letters.TheConstants.{LEAF, BUD}
use Rattle.pm_brackets.specs.declared.letters.TheConstants.{OPEN, CLOSE}
use Rattle.pm_map.specs.Structure.{Structure, IsStructure}
use Rattle.pm_distances.proofs.Walked.{is_up, is_cut}
use Rattle.pm_open.proofs.Letters.{letter_of, IsSpelled}
use Rattle.pm_walk.proofs.Edges.{cut_is_out}

-- the edge of the root is cut
pub root_cut : (s : Structure) (level : ℕ → ℕ) → level 0 ≡ 0 → level (s.twin 0) ≡ 1 → is_cut s level 0 ≡ true
root_cut s level low up = cut_is_out s (is_up s level) 0 (omega arith) ∙ eq-eqb (level (s.twin 0)) (suc (level 0)) (omega arith)

letter_of_root : (s : Structure) (level : ℕ → ℕ) (d : ℕ) → d ≡ 0 → letter_of s level d ≡ LEAF
letter_of_root s level d e = rw (eq-eqb d 0 e) refl

letter_of_bud : (s : Structure) (level : ℕ → ℕ) (d : ℕ) → d ≢ 0 → is_cut s level d ≡ true → d < s.twin d → letter_of s level d ≡ BUD
letter_of_bud s level d some e l = rw (ne_eqb d 0 some, e, lt-ltb d (s.twin d) l) refl

letter_of_leaf : (s : Structure) (level : ℕ → ℕ) (d : ℕ) → d ≢ 0 → is_cut s level d ≡ true → s.twin d < d → letter_of s level d ≡ LEAF
letter_of_leaf s level d some e l = rw (ne_eqb d 0 some, e, le-ltb d (s.twin d) (omega arith)) refl

letter_of_open : (s : Structure) (level : ℕ → ℕ) (d : ℕ) → d ≢ 0 → is_cut s level d ≡ false → d < s.twin d → letter_of s level d ≡ OPEN
letter_of_open s level d some e l = rw (ne_eqb d 0 some, e, lt-ltb d (s.twin d) l) refl

letter_of_close : (s : Structure) (level : ℕ → ℕ) (d : ℕ) → d ≢ 0 → is_cut s level d ≡ false → s.twin d < d → letter_of s level d ≡ CLOSE
letter_of_close s level d some e l = rw (ne_eqb d 0 some, e, le-ltb d (s.twin d) (omega arith)) refl

-- which kind a dart is of, and its letter
pub data IsKind (s : Structure) (level : ℕ → ℕ) (places : List ℕ) (d : ℕ) : Type 0 where
  a_plant : d ≡ 0 → is_cut s level d ≡ true → slice_index places d ≡ LEAF → IsKind s level places d
  a_bud : 0 < d → is_cut s level d ≡ true → d < s.twin d → slice_index places d ≡ BUD → IsKind s level places d
  a_leaf : 0 < d → is_cut s level d ≡ true → s.twin d < d → slice_index places d ≡ LEAF → IsKind s level places d
  an_open : 0 < d → is_cut s level d ≡ false → d < s.twin d → slice_index places d ≡ OPEN → IsKind s level places d
  a_close : 0 < d → is_cut s level d ≡ false → s.twin d < d → slice_index places d ≡ CLOSE → IsKind s level places d

pub kind : (s : Structure) (level : ℕ → ℕ) (places : List ℕ) (d : ℕ) → IsStructure s → is_cut s level 0 ≡ true → IsSpelled s level places → d < s.darts → IsKind s level places d
kind s level places d is root spelled l =
    let letter = spelled.each d l in
    elim (cases_eq d 0) [
      | inl first ↦ a_plant first (ap (is_cut s level) first ∙ root) (letter ∙ letter_of_root s level d first)
      | inr some ↦
          let apart = is.twin_other d l in
          elim (cases_Bool (is_cut s level d)) [
            | inl cut ↦ elim (cases_lt d (s.twin d)) [
              | inl less ↦ a_bud (omega arith) cut less (letter ∙ letter_of_bud s level d some cut less)
              | inr more ↦ let less : s.twin d < d = omega arith in a_leaf (omega arith) cut less (letter ∙ letter_of_leaf s level d some cut less)
            ]
            | inr kept ↦ elim (cases_lt d (s.twin d)) [
              | inl less ↦ an_open (omega arith) kept less (letter ∙ letter_of_open s level d some kept less)
              | inr more ↦ let less : s.twin d < d = omega arith in a_close (omega arith) kept less (letter ∙ letter_of_close s level d some kept less)
            ]
          ]
    ]
