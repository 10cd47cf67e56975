-- The answer of the reader of map files.
use Rattle.std.specs.Prelude.{ℕ, List, Result, Ok, Err, ⊤, drop}
use Rattle.pm_text.specs.Broken.{IsBrokenLine}
use Rattle.pm_mapfile.specs.declared.read.TextRefusal.{TextRefusal}
use Rattle.pm_mapfile.specs.declared.read.TextRefusal.TheVariants.{Memory, Text}
use Rattle.pm_mapfile.specs.declared.file.ReadFile.{ReadFile}
use Rattle.pm_mapfile.specs.MapFile.{IsMapFile}
use Rattle.pm_mapfile.specs.steps.Lines.{IsReadMap}
use Rattle.pm_mapfile.specs.steps.ReadText.{IsResidueAnswer}

-- what the text of the map says, and what stands after it; or the line at which the bytes break the form
abbrev pub IsReadFileAnswer : List ℕ → Result ReadFile TextRefusal → Type 0
IsReadFileAnswer bytes (Ok file) =
    IsReadMap bytes file.text.edges file.text.root file.text.darts.items file.text.sizes.items file.text.after
    × IsResidueAnswer (drop file.text.after bytes) (Ok file.residue)
IsReadFileAnswer bytes (Err (Text line)) = IsBrokenLine IsMapFile bytes line
IsReadFileAnswer bytes (Err Memory) = ⊤
