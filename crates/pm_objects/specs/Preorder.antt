-- Objects in preorder.
use Rattle.std.specs.Prelude.{◌≡◌, ℕ, List}
use Rattle.pm_lehmer.specs.Lehmer.{IsArrangementOf}
use Rattle.pm_words.specs.Word.{IsGoodStart, turned}
use Rattle.pm_objects.specs.Objects.{letters_of}

-- The arrangement with this code, read cyclically from a good start of its word for this goal: so it is the preorder of so
-- many plane trees.
pub record ArePreordered (goal : ℕ) (arities code : List ℕ) (start : ℕ) (objects : List ℕ) : Type 0 where
  pub arrangement : List ℕ
  pub is_arranged : IsArrangementOf code arrangement
  pub is_start : IsGoodStart goal (letters_of arities arrangement) start
  pub are_turned : objects ≡ turned start arrangement
