-- Refusals of a map text are those of the forms that begin with one.
use Rattle.std.specs.Prelude.{ℕ, List, Err}
use Rattle.pm_mapfile.specs.declared.read.TextRefusal.{TextRefusal}
use Rattle.pm_mapfile.specs.declared.read.TextRefusal.TheVariants.{Memory, Text}
use Rattle.pm_mapfile.specs.steps.ReadText.{IsReadTextAnswer}
use Rattle.pm_mapfile.specs.steps.ReadFile.{IsReadFileAnswer}
use Rattle.pm_mapfile.proofs.FileLemmas.{file_broken}

pub file_refusal : (bytes : List ℕ) (refusal : TextRefusal) → IsReadTextAnswer bytes (Err refusal) → IsReadFileAnswer bytes (Err refusal)
file_refusal bytes (Text line) b = file_broken bytes line b
file_refusal bytes Memory b = b
