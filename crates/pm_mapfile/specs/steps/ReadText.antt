-- The answer of the reader of map texts.
use Rattle.std.specs.Prelude.{◌≡◌, ℕ, ◌<◌, ◌≤◌, List, [], Option, Some, None, Result, Ok, Err, ⊤}
use Rattle.pm_text.specs.Broken.{IsBrokenLine}
use Rattle.pm_lists.specs.declared.num_list.NumList.{NumList}
use Rattle.pm_mapfile.specs.declared.read.ReadText.{ReadText}
use Rattle.pm_mapfile.specs.declared.read.TextRefusal.{TextRefusal}
use Rattle.pm_mapfile.specs.declared.read.TextRefusal.TheVariants.{Memory, Text}
use Rattle.pm_mapfile.specs.MapFile.{BeginsWithMapText, IsResidue, IsAfterMap}
use Rattle.pm_mapfile.specs.steps.Lines.{IsReadMap}

-- what the text says, or the line at which the bytes break the form, or want of memory
abbrev pub IsReadTextAnswer : List ℕ → Result ReadText TextRefusal → Type 0
IsReadTextAnswer bytes (Ok text) = IsReadMap bytes text.edges text.root text.darts.items text.sizes.items text.after
IsReadTextAnswer bytes (Err (Text line)) = IsBrokenLine BeginsWithMapText bytes line
IsReadTextAnswer bytes (Err Memory) = ⊤

-- what stands after a map text: nothing, or the numbers of a residue line; or the line at which it breaks that form
abbrev pub IsResidueAnswer : List ℕ → Result (Option NumList) TextRefusal → Type 0
IsResidueAnswer bytes (Ok None) = bytes ≡ []
IsResidueAnswer bytes (Ok (Some numbers)) = IsResidue (Some numbers) bytes
IsResidueAnswer bytes (Err (Text line)) = IsBrokenLine IsAfterMap bytes line × (0 < line) × (line ≤ 2)
IsResidueAnswer bytes (Err Memory) = ⊤
