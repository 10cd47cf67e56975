-- What the code that reads a file of choices answers.
use Rattle.std.specs.Prelude.{ℕ, List, Result, Ok, Err}
use Rattle.pm_text.specs.Broken.{IsBrokenLine}
use Rattle.pm_lists.specs.declared.num_list.NumList.{NumList}
use Rattle.pm_cli.specs.declared.refusal.Refusal.{Refusal}
use Rattle.pm_cli.specs.declared.refusal.Refusal.TheVariants.{Text}
use Rattle.pm_cli.specs.declared.refusal.Stop.{Stop}
use Rattle.pm_cli.specs.Sampling.{IsChoicesLine, IsChoicesFile}
use Rattle.pm_cli.specs.steps.Answering.{StopsBy}

-- the line at which a file of choices breaks its form
pub data IsBrokenChoices (bytes : List ℕ) : Refusal → Type 0 where
  broken : (line : ℕ) → IsBrokenLine IsChoicesFile bytes line → IsBrokenChoices bytes (Text line)

-- the choices of the file, or the line at which it breaks the form, or want of memory
abbrev pub IsChoicesAnswer : List ℕ → Result NumList Stop → Type 0
IsChoicesAnswer bytes (Ok choices) = IsChoicesLine choices bytes
IsChoicesAnswer bytes (Err stop) = StopsBy (IsBrokenChoices bytes) stop
