-- The letters of two turns along a contour, and how many buds and leaves stand at the first places of them.
use Rattle.std.proofs.Common.{◌≡◌, ◌≢◌, ℕ, suc, ◌+◌, ◌<◌, ◌≤◌, true, false, eqb, List, ◌++◌, length, get_or, take, drop, refl, add-one, arith, inl, inr, lit<}
use Rattle.std.specs.Prelude.{slice_index}
use Rattle.std.proofs.lemmas.Bool.{ne_eqb, cases_lt}
use Rattle.std.proofs.lemmas.List.{get_or_append_left, get_or-append-add, length-append, take-append-le, take_all, get_or_past}
use Rattle.std.proofs.lemmas.List.Sums.{count_by_more_yes, count_by_more_no, sum_by-append}
use Rattle.std.proofs.Math.Seq.{take-add, take-append-add}
use Rattle.pm_trees.specs.declared.letters.TheConstants.{LEAF, BUD}
use Rattle.pm_brackets.specs.Word.{count}
use Rattle.pm_match.specs.Pair.{stretch}

-- the letter at a place of the two turns
unfoldable pub letter : List ℕ → ℕ → ℕ
letter places i = get_or (places ++ places) i 0

-- the buds among the first k places
unfoldable pub buds : List ℕ → ℕ → ℕ
buds places k = count BUD (take k (places ++ places))

-- the leaves among the first k places
unfoldable pub leaves : List ℕ → ℕ → ℕ
leaves places k = count LEAF (take k (places ++ places))

pub letter-first : (places : List ℕ) (i : ℕ) → i < length places → letter places i ≡ slice_index places i
unfolding letter
letter-first places i h = get_or_append_left places places 0 i h

pub letter-second : (places : List ℕ) (i : ℕ) → letter places (length places + i) ≡ slice_index places i
unfolding letter
letter-second places i = get_or-append-add places places i 0

count-yes : (x : ℕ) (xs : List ℕ) (i : ℕ) → i < length xs → get_or xs i 0 ≡ x → count x (take (suc i) xs) ≡ suc (count x (take i xs))
count-yes x xs i h e =
    let test : eqb (get_or xs i 0) x ≡ true = grind arith in
    let step = count_by_more_yes (λ y. eqb y x) xs i 0 h test in
    omega (arith, rw add-one at step)

count-no : (x : ℕ) (xs : List ℕ) (i : ℕ) → i < length xs → get_or xs i 0 ≢ x → count x (take (suc i) xs) ≡ count x (take i xs)
count-no x xs i h e =
    let test : eqb (get_or xs i 0) x ≡ false = ne_eqb _ _ e in
    let step = count_by_more_no (λ y. eqb y x) xs i 0 h test in
    rw add-one at step

within : (xs : List ℕ) (i : ℕ) (x : ℕ) → 0 < x → get_or xs i 0 ≡ x → i < length xs
within xs i x positive e = elim (cases_lt i (length xs)) [ inl h ↦ h | inr h ↦ absurd (omega (arith, get_or_past xs i 0 h)) ]

-- a place with a bud lies within the contour
pub bud_within : (places : List ℕ) (p : ℕ) → slice_index places p ≡ BUD → p < length places
bud_within places p e = within places p BUD (lit< tt) e

pub leaf_within : (places : List ℕ) (p : ℕ) → slice_index places p ≡ LEAF → p < length places
leaf_within places p e = within places p LEAF (lit< tt) e

-- a place with a bud lies within the two turns
pub bud_in_turns : (places : List ℕ) (i : ℕ) → letter places i ≡ BUD → i < length places + length places
unfolding letter
bud_in_turns places i e = omega (arith, within (places ++ places) i BUD (lit< tt) e, length-append places places)

pub leaf_in_turns : (places : List ℕ) (i : ℕ) → letter places i ≡ LEAF → i < length places + length places
unfolding letter
leaf_in_turns places i e = omega (arith, within (places ++ places) i LEAF (lit< tt) e, length-append places places)

-- what one letter adds to the counts
pub record IsStep (places : List ℕ) (i bud leaf : ℕ) : Type 0 where
  pub more_buds : buds places (suc i) ≡ bud + buds places i
  pub more_leaves : leaves places (suc i) ≡ leaf + leaves places i

pub at_bud : (places : List ℕ) (i : ℕ) → letter places i ≡ BUD → IsStep places i 1 0
unfolding letter buds leaves
at_bud places i e =
    let h : i < length (places ++ places) = within (places ++ places) i BUD (lit< tt) e in
    let other : get_or (places ++ places) i 0 ≢ LEAF = λ f. absurd (omega arith) in
    record { more_buds = omega (arith, count-yes BUD (places ++ places) i h e); more_leaves = omega (arith, count-no LEAF (places ++ places) i h other) }

pub at_leaf : (places : List ℕ) (i : ℕ) → letter places i ≡ LEAF → IsStep places i 0 1
unfolding letter buds leaves
at_leaf places i e =
    let h : i < length (places ++ places) = within (places ++ places) i LEAF (lit< tt) e in
    let other : get_or (places ++ places) i 0 ≢ BUD = λ f. absurd (omega arith) in
    record { more_buds = omega (arith, count-no BUD (places ++ places) i h other); more_leaves = omega (arith, count-yes LEAF (places ++ places) i h e) }

pub at_other : (places : List ℕ) (i : ℕ) → i < length places + length places → letter places i ≢ BUD → letter places i ≢ LEAF → IsStep places i 0 0
unfolding letter buds leaves
at_other places i i_in no_bud no_leaf =
    let h : i < length (places ++ places) = omega (arith, length-append places places) in
    record { more_buds = omega (arith, count-no BUD (places ++ places) i h no_bud); more_leaves = omega (arith, count-no LEAF (places ++ places) i h no_leaf) }

count-turn : (x : ℕ) (places : List ℕ) (k : ℕ) → k ≤ length places → count x (take (length places + k) (places ++ places)) ≡ count x (take (length places) (places ++ places)) + count x (take k (places ++ places))
count-turn x places k h =
    rw (take-append-add places places k, take-append-le k places places h, take-append-le (length places) places places (omega arith), take_all (length places) places (omega arith)) (sum_by-append _ places (take k places))

-- The second turn counts as the first.
pub record IsSecond (places : List ℕ) (k : ℕ) : Type 0 where
  pub second_buds : buds places (length places + k) ≡ buds places (length places) + buds places k
  pub second_leaves : leaves places (length places + k) ≡ leaves places (length places) + leaves places k

pub second : (places : List ℕ) (k : ℕ) → k ≤ length places → IsSecond places k
unfolding buds leaves
second places k h = record { second_buds = count-turn BUD places k h; second_leaves = count-turn LEAF places k h }

-- a stretch counts what its end has above its start
pub record IsStretch (places : List ℕ) (p n : ℕ) : Type 0 where
  pub in_buds : buds places (suc p + n) ≡ buds places (suc p) + count BUD (stretch places p n)
  pub in_leaves : leaves places (suc p + n) ≡ leaves places (suc p) + count LEAF (stretch places p n)

take-split : (m n : ℕ) (xs : List ℕ) → take (m + n) xs ≡ take m xs ++ take n (drop m xs)
take-split m n xs = take-add m n xs

count-stretch : (x : ℕ) (xs : List ℕ) (m n : ℕ) → count x (take (m + n) xs) ≡ count x (take m xs) + count x (take n (drop m xs))
count-stretch x xs m n = rw (take-split m n xs) (sum_by-append _ (take m xs) (take n (drop m xs)))

pub stretched : (places : List ℕ) (p n : ℕ) → IsStretch places p n
unfolding buds leaves
stretched places p n = record { in_buds = count-stretch BUD (places ++ places) (suc p) n; in_leaves = count-stretch LEAF (places ++ places) (suc p) n }

-- no place counts nothing
pub record IsStart (places : List ℕ) : Type 0 where
  pub no_buds : buds places 0 ≡ 0
  pub no_leaves : leaves places 0 ≡ 0

pub start : (places : List ℕ) → IsStart places
unfolding buds leaves
start places = record { no_buds = refl; no_leaves = refl }

-- a contour with two more leaves than buds, in the counts of one turn
pub record HasSurplus (places : List ℕ) : Type 0 where
  pub surplus : leaves places (length places) ≡ buds places (length places) + 2

pub surplus_from : (places : List ℕ) → count LEAF places ≡ count BUD places + 2 → HasSurplus places
unfolding buds leaves
surplus_from places e =
    record { surplus = rw (take-append-le (length places) places places (omega arith), take_all (length places) places (omega arith)) e }
