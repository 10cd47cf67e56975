-- The objects of a profile in preorder.
use Rattle.std.proofs.Common.{◌≡◌, ℕ, suc, ◌<◌, List, length, sym, ◌∙◌, subst, arith}
use Rattle.pm_lehmer.specs.Lehmer.{IsArrangementCode}
use Rattle.pm_words.specs.Word.{IsGood}
use Rattle.pm_trees.specs.Pairs.{IsProfile, edges_of}
use Rattle.pm_objects.specs.Objects.{letters_of}
use Rattle.pm_objects.specs.Preorder.{ArePreordered}
use Rattle.pm_objects.proofs.ObjectCounts.{HasObjects as HaveRanges}
use Rattle.pm_objects.proofs.Preorders.{HasPreorder, IsOnePreorder}
use Rattle.pm_objects.proofs.Preorders.{preorder_is as preorder_of_ranges, one_preorder as one_of_code, preorder_exists as some_preorder}
use Rattle.pm_euler.specs.Objects.{halves_of, ranges_of, leaves_of_profile}
use Rattle.pm_euler.proofs.ObjectLemmas.{HasObjects, profile_has, profile_apart, all_of_profile, one_more_object, halves_few}

pub record IsPreorder (pairs : List (ℕ × ℕ)) (start : ℕ) (objects : List ℕ) : Type 0 where
  pub long : length objects ≡ suc (edges_of pairs)
  pub within : start < suc (edges_of pairs)
  pub good : IsGood 1 (letters_of (halves_of pairs) objects)
  pub ranged : HaveRanges (ranges_of pairs) (leaves_of_profile pairs) objects
  pub has : HasObjects pairs objects

pub preorder_is : (pairs : List (ℕ × ℕ)) (code : List ℕ) (start : ℕ) (objects : List ℕ) → IsProfile pairs → length code ≡ suc (edges_of pairs) → ArePreordered 1 (halves_of pairs) code start objects → IsPreorder pairs start objects
preorder_is pairs code start objects is coded p =
    let all = all_of_profile pairs is in
    let r = preorder_of_ranges (ranges_of pairs) (leaves_of_profile pairs) 1 code start objects (profile_apart pairs is) (coded ∙ sym all) p in
    record { long = r.long ∙ all; within = subst (λ (n : ℕ). start < n) all r.within; good = r.good; ranged = r.has; has = profile_has pairs objects is r.has }

pub one_preorder : (pairs : List (ℕ × ℕ)) (code : List ℕ) (first second : ℕ) (objects others : List ℕ) → IsProfile pairs → length code ≡ suc (edges_of pairs)
    → ArePreordered 1 (halves_of pairs) code first objects → ArePreordered 1 (halves_of pairs) code second others → IsOnePreorder first second objects others
one_preorder pairs code first second objects others is coded =
    one_of_code (halves_of pairs) code first second objects others (omega (arith, coded, halves_few pairs is)) (coded ∙ one_more_object pairs is)

pub preorder_exists : (pairs : List (ℕ × ℕ)) (code : List ℕ) → IsProfile pairs → length code ≡ suc (edges_of pairs) → IsArrangementCode code → HasPreorder 1 (halves_of pairs) code
preorder_exists pairs code is coded = some_preorder 1 (halves_of pairs) code (omega arith) (omega (arith, coded, halves_few pairs is)) (coded ∙ one_more_object pairs is)
