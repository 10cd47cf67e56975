-- The word of a balanced tree has in no prefix more than one leaf more than buds.
use Rattle.std.proofs.Common.{◌≡◌, ℕ, suc, ◌+◌, ◌≤◌, List, ◌∷◌, length, take, refl, ◌∙◌, ap, arith}
use Rattle.std.proofs.lemmas.List.{take-append-le}
use Rattle.pm_trees.specs.declared.letters.TheConstants.{LEAF, BUD}
use Rattle.pm_brackets.specs.Word.{count}
use Rattle.pm_trees.specs.Word.{contour}
use Rattle.pm_brackets.proofs.Tally.{tally_is, tally_yes}
use Rattle.pm_match.specs.Pair.{IsBalanced}
use Rattle.pm_match.proofs.Counts.{buds, leaves, surplus_from}
use Rattle.pm_match.proofs.Straight.{low}
use Rattle.pm_close.specs.steps.Levelling.{IsLow}

-- the plant before a word
plant_leaf : (xs : List ℕ) → count LEAF (LEAF ∷ xs) ≡ suc (count LEAF xs)
plant_leaf xs = omega (arith, tally_is LEAF (LEAF ∷ xs), tally_yes LEAF LEAF xs refl, tally_is LEAF xs)

-- the counts of a prefix with the plant
pub leaves_of : (word : List ℕ) (k : ℕ) → k ≤ length word → leaves (contour word) (suc k) ≡ suc (count LEAF (take k word))
unfolding leaves
leaves_of word k le = ap (count LEAF) (take-append-le (suc k) (contour word) (contour word) (omega arith)) ∙ plant_leaf (take k word)

pub buds_of : (word : List ℕ) (k : ℕ) → k ≤ length word → buds (contour word) (suc k) ≡ count BUD (take k word)
unfolding buds
buds_of word k le = ap (count BUD) (take-append-le (suc k) (contour word) (contour word) (omega arith))

pub low_word : (word : List ℕ) → count LEAF (contour word) ≡ count BUD (contour word) + 2 → IsBalanced (contour word) → IsLow word
low_word word s balanced k le =
    let prefix = low (contour word) (record { surplus = surplus_from (contour word) s; plant = balanced }) (suc k) (omega arith) in
    omega (arith, prefix, leaves_of word k le, buds_of word k le)
