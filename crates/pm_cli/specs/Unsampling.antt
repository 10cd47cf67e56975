-- What the commands that unsample answer to a map file with its residue line.
use Rattle.std.specs.Prelude.{◌≡◌, ℕ, List, Option, None, Some, Result, Ok, Err}
use Rattle.pm_map.specs.declared.refusal.MapRefusal.{MapRefusal}
use Rattle.pm_map.specs.Rotation.{RotationSystem}
use Rattle.pm_mapfile.specs.Answers.{AnswersFile}
use Rattle.pm_mapfile.specs.MapFile.{IsSampleFile}
use Rattle.pm_class.specs.declared.sample.UnsampleRefusal.{UnsampleRefusal}
use Rattle.pm_class.specs.declared.sample.UnsampleRefusal.TheVariants.{Memory, Class, List as NotValid}
use Rattle.pm_cli.specs.declared.refusal.Refusal.{Refusal}
use Rattle.pm_cli.specs.declared.refusal.Refusal.TheVariants.{Invalid}
use Rattle.pm_cli.specs.Classes.{InClass}
use Rattle.pm_cli.specs.MapAnswers.{RefusesFile, rule_of_class}
use Rattle.pm_cli.specs.Sampling.{IsChoicesLine}

-- a map file with its residue line, with this property of its map, which has no more edges than the limit, and its residue
pub record HasPair (bytes : List ℕ) (limit : ℕ) (P : RotationSystem → List ℕ → Type 0) : Type 0 where
  pub residue : List ℕ
  pub map : RotationSystem
  pub answered : AnswersFile bytes limit (Some residue) (Ok map)
  pub holds : P map residue

-- a map file with its residue line whose lines make no map within the limit, for this first reason
abbrev pub MakesNoPair : List ℕ → ℕ → MapRefusal → Type 0
MakesNoPair bytes limit refusal = (residue : List ℕ) × AnswersFile bytes limit (Some residue) (Err refusal)

-- the first rule that a map file with its residue line breaks; a residue line that is missing breaks the form
abbrev pub RefusesSampleFile : ℕ → List ℕ → Refusal → Type 0
RefusesSampleFile limit bytes refusal = RefusesFile IsSampleFile (MakesNoPair bytes limit) bytes refusal

-- how it is told that a map or a residue isn't of a class
abbrev pub rule_of_pair : UnsampleRefusal → Option Refusal
rule_of_pair Memory = None
rule_of_pair (Class why) = rule_of_class why
rule_of_pair (NotValid refusal) = Some (Invalid refusal)

-- the text is the line of the choices that give the canonical map of the map, and the residue
pub record HasUnsampledText (unsamples : Result (List ℕ) UnsampleRefusal → Type 0) (text : List ℕ) : Type 0 where
  pub choices : List ℕ
  pub unsampled : unsamples (Ok choices)
  pub is_text : IsChoicesLine choices text

-- the answer: the line of the choices; or the first rule that the file, its map or its residue breaks, in this order
pub data Unsamples (class : InClass) (bytes : List ℕ) : Result (List ℕ) Refusal → Type 0 where
  unsampled : (text : List ℕ) → HasPair bytes class.most_edges (λ map residue. HasUnsampledText (class.unsamples map residue) text) → Unsamples class bytes (Ok text)
  no_map : (refusal : Refusal) → RefusesSampleFile class.most_edges bytes refusal → Unsamples class bytes (Err refusal)
  refused : (refusal : Refusal) (why : UnsampleRefusal) → rule_of_pair why ≡ Some refusal
      → HasPair bytes class.most_edges (λ map residue. class.unsamples map residue (Err why)) → Unsamples class bytes (Err refusal)
