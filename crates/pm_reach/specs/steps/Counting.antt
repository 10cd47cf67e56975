-- What is known while the valid lists are taken one after another and their maps are counted.
use Rattle.std.specs.Prelude.{◌≡◌, ℕ, Bool, true, if◌then◌else◌, List, [], ◌∷◌, ◌++◌}
use Rattle.std.specs.List.{AllZip}
use Rattle.pm_lists.specs.Valid.{IsValidList}
use Rattle.pm_map.specs.Rotation.{RotationSystem}
use Rattle.pm_reach.specs.Census.{GivesMap, numbers_of, valid_lists}
use Rattle.pm_reach.specs.steps.Walking.{lists_after}

-- the valid lists that are still to be taken: where there are more, these choices and the lists behind them
abbrev pub lists_left : Bool → List ℕ → List ℕ → List (List ℕ)
lists_left more bounds choices = if more then choices ∷ lists_after bounds choices else []

-- The lists before those that are left are done, and the entries count their maps.
pub record IsCounting (bounds : List ℕ) (samples : List ℕ → RotationSystem → List ℕ → Type 0) (more : Bool) (choices : List ℕ) (entries : List (RotationSystem × ℕ)) : Type 0 where
  pub done : List (List ℕ)
  pub maps : List RotationSystem
  pub whole : done ++ lists_left more bounds choices ≡ valid_lists bounds
  pub given : AllZip (GivesMap samples) done maps
  pub counted : entries ≡ numbers_of maps
  pub valid : more ≡ true → IsValidList choices bounds
