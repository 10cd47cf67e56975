-- How the walk passes a dart of a map.
use Rattle.std.specs.Prelude.{◌≡◌, ℕ, ◌/◌, Bool, true, false, List, slice_index, slice_index_or, slice_set}
use Rattle.pm_map.specs.Rotation.{RotationSystem, twin}
use Rattle.pm_walk.specs.declared.passing.DartKind.TheVariants.{CutFirst, CutAgain, KeptFirst, KeptAgain}
use Rattle.pm_walk.specs.declared.passing.Fate.{Fate}
use Rattle.pm_walk.specs.declared.passing.Fate.TheVariants.{Unmet, Cut, Kept}
use Rattle.pm_walk.specs.declared.passing.Step.{Step}

-- By the fate of its edge so far, the kind of the dart, the dart that the walk goes on to, and the fates after it. An edge
-- that is met for the first time is cut where the dart passes the test.
pub data IsPassed (map : RotationSystem) (dart : ℕ) (passes : Bool) (before after : List Fate) (step : Step) : Type 0 where
  cuts : slice_index_or before (dart / 2) Unmet ≡ Unmet → passes ≡ true → after ≡ slice_set before (dart / 2) Cut → step.kind ≡ CutFirst
      → step.next ≡ slice_index map.sigma dart → IsPassed map dart passes before after step
  keeps : slice_index_or before (dart / 2) Unmet ≡ Unmet → passes ≡ false → after ≡ slice_set before (dart / 2) Kept → step.kind ≡ KeptFirst
      → step.next ≡ slice_index map.sigma (twin dart) → IsPassed map dart passes before after step
  meets_cut : slice_index_or before (dart / 2) Unmet ≡ Cut → after ≡ before → step.kind ≡ CutAgain → step.next ≡ slice_index map.sigma dart
      → IsPassed map dart passes before after step
  meets_kept : slice_index_or before (dart / 2) Unmet ≡ Kept → after ≡ before → step.kind ≡ KeptAgain → step.next ≡ slice_index map.sigma (twin dart)
      → IsPassed map dart passes before after step
