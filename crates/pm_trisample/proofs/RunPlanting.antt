-- A stem tree planted anew at the start of a run: it stays a stem tree, and is balanced.
use Rattle.std.proofs.Common.{◌≡◌, ℕ, ◌+◌, ◌-◌, ◌*◌, ◌%◌, ◌<◌, List, refl, sym, subst, arith}
use Rattle.std.specs.Prelude.{take}
use Rattle.pm_brackets.specs.PlantedAt.{AreTwo}
use Rattle.pm_brackets.specs.Ring.{number_after}
use Rattle.pm_brackets.specs.Word.{IsLetterAt, count}
use Rattle.pm_brackets.proofs.LetterTurns.{letter_few}
use Rattle.pm_brackets.proofs.PlantedAt.{anew_from, chosen_exists, chosen_is, one_anew, plant_is_marked}
use Rattle.pm_tri.specs.declared.letters.TheConstants.{STEM}
use Rattle.pm_tri.specs.Replanting.{IsAlike, IsReplanted}
use Rattle.pm_tri.specs.Runs.{AreRunStarts, IsBalanced, IsRunStart}
use Rattle.pm_tri.specs.StemTree.{IsStemTree, contour, nodes}
use Rattle.pm_tri.proofs.Replants.{each_stem, replanted_alike}
use Rattle.pm_tri.proofs.RunStarts.{run_marks, two_runs}
use Rattle.pm_tri.proofs.StemCounts.{stems_count}
use Rattle.pm_tri.proofs.StemLetters.{stem_is_other}
use Rattle.pm_trisample.specs.PlantedAnew.{IsPlantedAnew, IsStartOfRun}
use Rattle.pm_trisample.proofs.Chosen.{first_chosen, second_chosen}

two_starts : (places : List ℕ) (first second : ℕ) → AreRunStarts places first second → AreTwo (IsRunStart places)
two_starts places first second s = record { earlier = first; later = second; in_order = s.in_order; earlier_is = s.first_is; later_is = s.second_is; no_third = s.no_third }

pub first_start : (places : List ℕ) (first second run : ℕ) → AreRunStarts places first second → run ≡ 0 → IsStartOfRun places run first
unfolding two_starts
first_start places first second run s none = first_chosen (IsRunStart places) (two_starts places first second s) run first none refl

pub second_start : (places : List ℕ) (first second run : ℕ) → AreRunStarts places first second → run < 2 → (run ≡ 0 → ⊥) → IsStartOfRun places run second
unfolding two_starts
second_start places first second run s low some = second_chosen (IsRunStart places) (two_starts places first second s) run second low some refl

-- the start of a run is a stem, numbered by those before it
pub start_numbered : (places : List ℕ) (run place stem : ℕ) → IsStartOfRun places run place → stem ≡ count STEM (take place places) → IsLetterAt STEM places stem place
start_numbered places run place stem is e = record { here = (chosen_is (IsRunStart places) run place is).is_before.is_free.stem; before = sym e }

module _ (word : List ℕ) (run place stem : ℕ) (tree : IsStemTree word) (is : IsStartOfRun (contour word) run place) (e : stem ≡ count STEM (take place (contour word))) where
  pub start_few : stem < 2 * nodes word
  start_few = let few = letter_few STEM (omega arith) (contour word) stem place (start_numbered (contour word) run place stem is e) in omega (arith, few, stems_count word tree)

  pub start_anew : (planted : List ℕ) (many : ℕ) → many ≡ nodes word → IsReplanted word stem planted → IsPlantedAnew word run planted ((2 * many - stem) % (2 * many))
  start_anew planted many counted r =
      subst (IsPlantedAnew word run planted) (same (count STEM (contour word)) many (omega (arith, counted, stems_count word tree)))
      (anew_from STEM stem_is_other (omega arith) IsRunStart word run stem place planted tree.in_order.matched is (start_numbered (contour word) run place stem is e) r)
    where
      same : (total many : ℕ) → total ≡ 2 * many → number_after total stem 0 ≡ (2 * many - stem) % (2 * many)
      same total many f = let zero : 0 + (2 * many - stem) ≡ 2 * many - stem = omega arith in rw (f, zero) refl

  pub start_balances : (planted : List ℕ) → IsReplanted word stem planted → IsBalanced (contour planted)
  start_balances planted r =
      plant_is_marked STEM stem_is_other (omega arith) IsStemTree IsRunStart run_marks word stem place planted tree (chosen_is (IsRunStart (contour word)) run place is)
      (start_numbered (contour word) run place stem is e) r

-- the same of a tree that is planted anew
module _ (word : List ℕ) (run : ℕ) (turned : List ℕ) (old_plant : ℕ) (tree : IsStemTree word) (anew : IsPlantedAnew word run turned old_plant) where
  pub anew_alike : IsAlike word turned
  anew_alike = replanted_alike word anew.start_number turned tree anew.is_replanted

  pub anew_balances : IsBalanced (contour turned)
  anew_balances = start_balances word run anew.place anew.start_number tree anew.is_chosen (sym anew.numbered.before) turned anew.is_replanted

  -- the old plant is one of the stems
  pub old_plant_few : old_plant < 2 * nodes word
  old_plant_few =
      let few = letter_few STEM (omega arith) (contour turned) old_plant anew.now anew.is_old_number in
      omega (arith, few, anew_alike.stems_are, stems_count word tree)

-- a tree planted anew, and its old plant
pub record HasAnew (word : List ℕ) (run : ℕ) : Type 0 where
  pub turned : List ℕ
  pub old_plant : ℕ
  pub is : IsPlantedAnew word run turned old_plant

-- each tree is planted anew at each of the two starts
pub anew_exists : (word : List ℕ) (run : ℕ) → IsStemTree word → run < 2 → HasAnew word run
anew_exists word run tree low =
    let found : (place : ℕ) × IsStartOfRun (contour word) run place = chosen_exists (IsRunStart (contour word)) (two_runs word tree) run low in
    let stem : ℕ = count STEM (take found.0 (contour word)) in
    let planted : (planted : List ℕ) × IsReplanted word stem planted = each_stem word stem tree (start_few word run found.0 stem tree found.1 refl) in
    record {
      turned = planted.0;
      old_plant = (2 * nodes word - stem) % (2 * nodes word);
      is = start_anew word run found.0 stem tree found.1 refl planted.0 (nodes word) refl planted.1;
    }

-- in one way
pub one_anew_tree : (word : List ℕ) (run : ℕ) (one other : List ℕ) (a b : ℕ) → IsStemTree word → IsPlantedAnew word run one a → IsPlantedAnew word run other b → (other ≡ one) × (b ≡ a)
one_anew_tree word run one other a b tree x y = one_anew STEM stem_is_other (omega arith) IsRunStart word run one other a b tree.in_order.matched (two_runs word tree) x y
