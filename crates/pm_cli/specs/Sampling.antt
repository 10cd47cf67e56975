-- What the commands that sample answer to a file of choices.
use Rattle.std.specs.Prelude.{◌≡◌, ℕ, List, [], ◌∷◌, ◌++◌, Result, Ok, Err, codes}
use Rattle.pm_text.specs.Broken.{newline, IsBrokenLine}
use Rattle.pm_lists.specs.ListLine.{AreWords, list_line}
use Rattle.pm_lists.specs.declared.check.ListRefusal.{ListRefusal}
use Rattle.pm_lists.specs.Refusal.{IsRefusalOf}
use Rattle.pm_map.specs.Rotation.{RotationSystem}
use Rattle.pm_mapfile.specs.MapText.{IsMapText}
use Rattle.pm_cli.specs.declared.refusal.Refusal.{Refusal}
use Rattle.pm_cli.specs.declared.refusal.Refusal.TheVariants.{Text, Invalid}
use Rattle.pm_cli.specs.Classes.{AtSize}

-- the file that spells the choices: one line, `choices` and numbers of 64 bits
pub record IsChoicesLine (choices bytes : List ℕ) : Type 0 where
  pub fit : AreWords choices
  pub spelled : bytes ≡ list_line (codes "choices") choices ++ newline ∷ []

-- a valid choices file
abbrev pub IsChoicesFile : List ℕ → Type 0
IsChoicesFile bytes = (choices : List ℕ) × IsChoicesLine choices bytes

-- a file with this property of its choices
pub record HasChoices (bytes : List ℕ) (P : List ℕ → Type 0) : Type 0 where
  pub choices : List ℕ
  pub spelled : IsChoicesLine choices bytes
  pub holds : P choices

-- the text of the map, and after it the residue line
pub record IsTextOfSample (map : RotationSystem) (residue text : List ℕ) : Type 0 where
  pub map_text : List ℕ
  pub is_map_text : IsMapText map map_text
  pub whole : text ≡ map_text ++ list_line (codes "residue") residue ++ newline ∷ []

-- the text of the map and the residue that the choices give
pub record IsSampleText (samples : List ℕ → RotationSystem → List ℕ → Type 0) (choices text : List ℕ) : Type 0 where
  pub map : RotationSystem
  pub residue : List ℕ
  pub sampled : samples choices map residue
  pub is_text : IsTextOfSample map residue text

-- the answer: the map and the residue that the choices give, or the first rule that the file breaks
pub data Samples (at : AtSize) (bytes : List ℕ) : Result (List ℕ) Refusal → Type 0 where
  sampled : (text : List ℕ) → HasChoices bytes (λ choices. IsSampleText at.samples choices text) → Samples at bytes (Ok text)
  no_list : (line : ℕ) → IsBrokenLine IsChoicesFile bytes line → Samples at bytes (Err (Text line))
  not_valid : (refusal : ListRefusal) → HasChoices bytes (λ choices. IsRefusalOf choices at.choice_limits refusal) → Samples at bytes (Err (Invalid refusal))
