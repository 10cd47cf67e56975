-- The steps of writing the levels.
use Rattle.std.proofs.Common.{◌≡◌, ◌≢◌, ℕ, suc, ◌+◌, ◌-◌, ◌<◌, ◌≤◌, eqb, true, inl, inr, List, length, get_or, set, take, replicate, refl, sym, ◌∙◌, ap, subst, arith, length-set, get_or-set_other}
use Rattle.std.specs.Prelude.{slice_index}
use Rattle.std.proofs.lemmas.Bool.{cases_lt, ne_eqb}
use Rattle.std.proofs.lemmas.List.{get_or-replicate, length-replicate}
use Rattle.std.proofs.lemmas.List.Sums.{count_by_more_yes, count_by_more_no}
use Rattle.std.proofs.lemmas.Grind.{get_or-set_at}
use Rattle.pm_perm.specs.Permutation.{IsPermutationList}
use Rattle.pm_trees.specs.declared.letters.TheConstants.{LEAF, BUD}
use Rattle.pm_brackets.specs.Word.{count}
use Rattle.pm_trees.specs.Word.{contour}
use Rattle.pm_close.specs.Level.{IsLevel}
use Rattle.pm_close.specs.steps.Levelling.{IsLow, IsLevelled, AreLevelsAt}

-- what a letter adds to the counts of a prefix
record IsCounted (letters : List ℕ) (index bud leaf : ℕ) : Type 0 where
  buds : count BUD (take (index + 1) letters) ≡ count BUD (take index letters) + bud
  leaves : count LEAF (take (index + 1) letters) ≡ count LEAF (take index letters) + leaf

yes : (x : ℕ) (letters : List ℕ) (index : ℕ) → index < length letters → slice_index letters index ≡ x → count x (take (index + 1) letters) ≡ count x (take index letters) + 1
yes x letters index l e = let test : eqb (get_or letters index 0) x ≡ true = grind arith in count_by_more_yes (λ y. eqb y x) letters index 0 l test

none : (x : ℕ) (letters : List ℕ) (index : ℕ) → index < length letters → slice_index letters index ≢ x → count x (take (index + 1) letters) ≡ count x (take index letters) + 0
none x letters index l e = omega (arith, count_by_more_no (λ y. eqb y x) letters index 0 l (ne_eqb _ _ e))

bud : (letters : List ℕ) (index : ℕ) → index < length letters → slice_index letters index ≡ BUD → IsCounted letters index 1 0
bud letters index l e = record { buds = yes BUD letters index l e; leaves = none LEAF letters index l (λ f. absurd (omega arith)) }

leaf : (letters : List ℕ) (index : ℕ) → index < length letters → slice_index letters index ≡ LEAF → IsCounted letters index 0 1
leaf letters index l e = record { buds = none BUD letters index l (λ f. absurd (omega arith)); leaves = yes LEAF letters index l e }

other : (letters : List ℕ) (index : ℕ) → index < length letters → slice_index letters index ≢ BUD → slice_index letters index ≢ LEAF → IsCounted letters index 0 0
other letters index l no_bud no_leaf = record { buds = none BUD letters index l no_bud; leaves = none LEAF letters index l no_leaf }

-- at a leaf the level is at least 1
pub levelled_some : (letters darts levels : List ℕ) (level index : ℕ) → IsLow letters → index < length letters → slice_index letters index ≡ LEAF
    → IsLevelled letters darts levels level index → 0 < level
levelled_some letters darts levels level index low l e h =
    let counted = leaf letters index l e in
    let few = low (index + 1) (omega arith) in
    omega (arith, counted.buds, counted.leaves, few, h.next)

-- the place of the plant
pub levelled_start : (letters darts levels : List ℕ) → IsPermutationList darts → length darts ≡ suc (length letters) → levels ≡ replicate (length darts) 0 → IsLevelled letters darts levels 1 0
levelled_start letters darts levels perm long e = record {
  as_long = ap length e ∙ length-replicate (length darts) 0;
  next = refl;
  each = λ p l. record { plant = λ z. at_plant letters darts levels perm long e p z; other = λ some. absurd (apart p l some) };
} where
  apart : (p : ℕ) → p < 1 → 0 < p → ⊥
  apart p l some = omega arith

  at_plant : (letters darts levels : List ℕ) → IsPermutationList darts → length darts ≡ suc (length letters) → levels ≡ replicate (length darts) 0 → (p : ℕ) → p ≡ 0 → slice_index levels (slice_index darts p) ≡ 0
  at_plant letters darts levels perm long e p z =
      ap (λ (xs : List ℕ). slice_index xs (slice_index darts p)) e ∙ get_or-replicate (length darts) (slice_index darts p) 0 0 (perm.stays p (omega arith))

-- the level written, whatever the level behind is
write : (letters darts levels : List ℕ) (level after index : ℕ) → IsPermutationList darts → length darts ≡ suc (length letters) → index < length letters → IsLevelled letters darts levels level index
    → after + count LEAF (take (index + 1) letters) ≡ suc (count BUD (take (index + 1) letters))
    → IsLevelled letters darts (set levels (slice_index darts (index + 1)) level) after (index + 1)
write letters darts levels level after index perm long l h next = record {
  as_long = length-set levels (slice_index darts (index + 1)) level ∙ h.as_long;
  next = next;
  each = λ p m. entry letters darts levels level index perm long l h p m;
} where
  differ : (p q : ℕ) → p < q → p ≡ q → ⊥
  differ p q l e = omega arith

  here : (letters : List ℕ) (level index : ℕ) → level + count LEAF (take index letters) ≡ suc (count BUD (take index letters)) → IsLevel (contour letters) (suc index) level
  here letters level index e = record { plant = λ z. absurd (none_is z); other = λ some. e } where
    none_is : {n : ℕ} → suc n ≡ 0 → ⊥
    none_is z = omega arith

  entry : (letters darts levels : List ℕ) (level index : ℕ) → IsPermutationList darts → length darts ≡ suc (length letters) → index < length letters → IsLevelled letters darts levels level index
      → (p : ℕ) → p < suc (index + 1) → IsLevel (contour letters) p (slice_index (set levels (slice_index darts (index + 1)) level) (slice_index darts p))
  entry letters darts levels level index perm long l h p m = elim (cases_lt p (suc index)) [
    | inl below ↦
        let ne : slice_index darts p ≢ slice_index darts (index + 1) = λ same. differ p (index + 1) (omega arith) (perm.injective p (index + 1) (omega arith) (omega arith) same) in
        (rw get_or-set_other (h.each p below))
    | inr above ↦
        let at : p ≡ index + 1 = omega arith in
        let inside : slice_index darts (index + 1) < length levels = omega (arith, perm.stays (index + 1) (omega arith), h.as_long) in
        let read : slice_index (set levels (slice_index darts (index + 1)) level) (slice_index darts p) ≡ level =
        get_or-set_at levels (slice_index darts (index + 1)) (slice_index darts p) level 0 (ap (slice_index darts) at) inside in
        let is : suc index ≡ p = omega arith in
        subst (λ (q : ℕ). IsLevel (contour letters) q (slice_index (set levels (slice_index darts (index + 1)) level) (slice_index darts p))) is
        (subst (IsLevel (contour letters) (suc index)) (sym read) (here letters level index h.next))
  ]

pub levelled_bud : (letters darts levels : List ℕ) (level index : ℕ) → IsPermutationList darts → length darts ≡ suc (length letters) → index < length letters → slice_index letters index ≡ BUD
    → IsLevelled letters darts levels level index → IsLevelled letters darts (set levels (slice_index darts (index + 1)) level) (level + 1) (index + 1)
levelled_bud letters darts levels level index perm long l e h =
    let counted = bud letters index l e in
    write letters darts levels level (level + 1) index perm long l h (omega (arith, counted.buds, counted.leaves, h.next))

pub levelled_leaf : (letters darts levels : List ℕ) (level index : ℕ) → IsLow letters → IsPermutationList darts → length darts ≡ suc (length letters) → index < length letters → slice_index letters index ≡ LEAF
    → IsLevelled letters darts levels level index → IsLevelled letters darts (set levels (slice_index darts (index + 1)) level) (level - 1) (index + 1)
levelled_leaf letters darts levels level index low perm long l e h =
    let counted = leaf letters index l e in
    let some = levelled_some letters darts levels level index low l e h in
    write letters darts levels level (level - 1) index perm long l h (omega (arith, counted.buds, counted.leaves, h.next, some))

pub levelled_other : (letters darts levels : List ℕ) (level index : ℕ) → IsPermutationList darts → length darts ≡ suc (length letters) → index < length letters
    → slice_index letters index ≢ BUD → slice_index letters index ≢ LEAF
    → IsLevelled letters darts levels level index → IsLevelled letters darts (set levels (slice_index darts (index + 1)) level) level (index + 1)
levelled_other letters darts levels level index perm long l no_bud no_leaf h =
    let counted = other letters index l no_bud no_leaf in
    write letters darts levels level level index perm long l h (omega (arith, counted.buds, counted.leaves, h.next))

pub levelled_few : (letters darts levels : List ℕ) (level index : ℕ) → IsLevelled letters darts levels level index → level ≤ suc (count BUD (take index letters))
levelled_few letters darts levels level index h = omega (arith, h.next)

pub levelled_end : (letters darts levels : List ℕ) (level : ℕ) → length darts ≡ suc (length letters) → IsLevelled letters darts levels level (length letters) → AreLevelsAt letters darts levels
levelled_end letters darts levels level long h = record { as_long = h.as_long; each = λ p l. h.each p (within p letters darts long l) } where
  within : (p : ℕ) (letters darts : List ℕ) → length darts ≡ suc (length letters) → p < length darts → p < suc (length letters)
  within p letters darts long l = omega arith
