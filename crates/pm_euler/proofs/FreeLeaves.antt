-- Planting a tree anew at a free leaf.
use Rattle.std.proofs.Common.{◌≡◌, ℕ, ◌+◌, ◌-◌, ◌%◌, ◌<◌, ◌≤◌, List, length, refl, sym, subst, arith}
use Rattle.pm_match.proofs.FreeMarks.{free_two}
use Rattle.pm_brackets.proofs.PlantedAt.{later_chosen, earlier_chosen, chosen_is}
use Rattle.std.specs.Prelude.{take, slice_index}
use Rattle.pm_trees.specs.declared.letters.TheConstants.{LEAF}
use Rattle.pm_trees.specs.Word.{contour}
use Rattle.pm_brackets.specs.Word.{count}
use Rattle.pm_trees.specs.Blossoming.{leaves}
use Rattle.pm_trees.specs.Leaves.{IsLeafAt}
use Rattle.pm_trees.specs.Replanting.{leaf_after}
use Rattle.pm_match.specs.Pair.{IsFree}
use Rattle.pm_match.specs.FreeLeaves.{AreFreeLeaves}
use Rattle.pm_match.proofs.Counts.{leaf_within as leaf_inside}
use Rattle.pm_euler.specs.PlantedAnew.{IsFreeLeaf}

-- the first of the two has number 0, and the second one number 1
pub first_chosen : (places : List ℕ) (first second free : ℕ) → AreFreeLeaves places first second → free ≡ 0 → IsFreeLeaf places free first
first_chosen places first second free two zero = subst (λ (b : ℕ). IsFreeLeaf places b first) (sym zero) (earlier_chosen (IsFree places) (free_two places first second two))

pub second_chosen : (places : List ℕ) (first second free : ℕ) → AreFreeLeaves places first second → free < 2 → (free ≡ 0 → ⊥) → IsFreeLeaf places free second
second_chosen places first second free two few some =
    let one : 1 ≡ free = omega arith in
    subst (λ (b : ℕ). IsFreeLeaf places b second) one (later_chosen (IsFree places) (free_two places first second two))

pub free_leaf_letter : (places : List ℕ) (free place : ℕ) → IsFreeLeaf places free place → slice_index places place ≡ LEAF
free_leaf_letter places free place is = (chosen_is (IsFree places) free place is).leaf

pub free_leaf_within : (places : List ℕ) (free place : ℕ) → IsFreeLeaf places free place → place < length places
free_leaf_within places free place is = leaf_inside places place (free_leaf_letter places free place is)

-- the free leaf has the number that is counted
pub free_leaf_numbered : (places : List ℕ) (free place leaf : ℕ) → IsFreeLeaf places free place → leaf ≡ count LEAF (take place places) → IsLeafAt places leaf place
free_leaf_numbered places free place leaf is e = record { here = free_leaf_letter places free place is; before = sym e }

-- what planting anew owes, of the place of a free leaf
pub free_leaf_inside : (word : List ℕ) (free place : ℕ) → IsFreeLeaf (contour word) free place → place ≤ length word
free_leaf_inside word free place is = let within = free_leaf_within (contour word) free place is in omega arith

pub old_number : (word : List ℕ) (leaf a b : ℕ) → a ≡ leaves word → b ≡ leaves word → leaf_after word leaf 0 ≡ (a - leaf) % b
old_number word leaf a b e f = plain (leaves word) a b leaf e f where
  plain : (n a b leaf : ℕ) → a ≡ n → b ≡ n → (0 + (n - leaf)) % n ≡ (a - leaf) % b
  plain n a b leaf e f = let zero : 0 + (n - leaf) ≡ n - leaf = omega arith in rw (e, f, zero) refl
