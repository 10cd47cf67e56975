-- The words that spell a command.
use Rattle.std.specs.Prelude.{◌≡◌, ℕ, ◌<◌, ◌≤◌, ◌^◌, List, [], ◌∷◌, length, take, codes, decimal, ⊤}
use Rattle.pm_cli.specs.declared.class.Size.{Size}
use Rattle.pm_cli.specs.declared.command.Command.{Command}
use Rattle.pm_cli.specs.declared.command.Command.TheVariants.{Reads, Makes}
use Rattle.pm_cli.specs.declared.command.Reader.{Reader}
use Rattle.pm_cli.specs.declared.command.Reader.TheVariants.{Close, OpenEulerian, OfMap, Check, Unsample, Sample}
use Rattle.pm_cli.specs.declared.command.MapTask.TheVariants.{Canon, Medial, Unmedial, Dual, Layers}
use Rattle.pm_cli.specs.declared.command.Maker.{Maker}
use Rattle.pm_cli.specs.declared.command.Maker.TheVariants.{Draw, Trip, Census}
use Rattle.pm_cli.specs.declared.words.TheConstants.{MAX_RECORDS}
use Rattle.pm_cli.specs.declared.command.Verb.{Verb}
use Rattle.pm_cli.specs.declared.command.Verb.TheVariants as verb
use Rattle.pm_cli.specs.Classes.{IsSize, class_of, class_word, checked_word, size_word}
use Rattle.pm_cli.specs.TreeKinds.{trees_word}

abbrev pub verb_word : Verb → List ℕ
verb_word verb.Close = codes "close"
verb_word verb.Open = codes "open"
verb_word (verb.OfMap Canon) = codes "canon"
verb_word (verb.OfMap Medial) = codes "medial"
verb_word (verb.OfMap Unmedial) = codes "unmedial"
verb_word (verb.OfMap Dual) = codes "dual"
verb_word (verb.OfMap Layers) = codes "layers"
verb_word verb.Check = codes "check"
verb_word verb.Sample = codes "sample"
verb_word verb.Unsample = codes "unsample"
verb_word verb.Draw = codes "draw"
verb_word verb.Trip = codes "trip"
verb_word verb.Census = codes "census"

-- a class and a size of it, and then other words
abbrev pub size_words : Size → List (List ℕ) → List (List ℕ)
size_words size rest = class_word (class_of size) ∷ size_word size ∷ rest

-- a seed and a count
abbrev pub number_words : ℕ → ℕ → List (List ℕ)
number_words seed count = decimal seed ∷ decimal count ∷ []

-- what the first word of a command tells to do, and the words behind it
abbrev pub verb_of : Command → Verb
verb_of (Reads (Close trees)) = verb.Close
verb_of (Reads (OfMap task)) = verb.OfMap task
verb_of (Reads OpenEulerian) = verb.Open
verb_of (Reads (Check class)) = verb.Check
verb_of (Reads (Unsample class)) = verb.Unsample
verb_of (Reads (Sample size)) = verb.Sample
verb_of (Makes (Draw seed count) size) = verb.Draw
verb_of (Makes (Trip seed) size) = verb.Trip
verb_of (Makes Census size) = verb.Census

abbrev pub behind : Command → List (List ℕ)
behind (Reads (Close trees)) = trees_word trees ∷ []
behind (Reads (OfMap task)) = []
behind (Reads OpenEulerian) = codes "eulerian" ∷ []
behind (Reads (Check class)) = checked_word class ∷ []
behind (Reads (Unsample class)) = class_word class ∷ []
behind (Reads (Sample size)) = size_words size []
behind (Makes (Draw seed count) size) = size_words size (number_words seed count)
behind (Makes (Trip seed) size) = size_words size (decimal seed ∷ [])
behind (Makes Census size) = size_words size []

-- the words of a command
abbrev pub spelling : Command → List (List ℕ)
spelling command = verb_word (verb_of command) ∷ behind command

-- a seed, and how many records are drawn from it
pub record AreDrawNumbers (seed count : ℕ) : Type 0 where
  pub fits : seed < 2 ^ 64
  pub some : 0 < count
  pub few : count ≤ MAX_RECORDS

-- a command with a size is one where the class has maps of that size
abbrev pub IsReader : Reader → Type 0
IsReader (Sample size) = IsSize size
IsReader (Close trees) = ⊤
IsReader OpenEulerian = ⊤
IsReader (OfMap task) = ⊤
IsReader (Check class) = ⊤
IsReader (Unsample class) = ⊤

abbrev pub IsMaker : Maker → Type 0
IsMaker (Draw seed count) = AreDrawNumbers seed count
IsMaker (Trip seed) = seed < 2 ^ 64
IsMaker Census = ⊤

abbrev pub IsCommand : Command → Type 0
IsCommand (Reads reader) = IsReader reader
IsCommand (Makes task size) = IsMaker task × IsSize size

-- the words are those of the command
pub record Spells (words : List (List ℕ)) (command : Command) : Type 0 where
  pub is_command : IsCommand command
  pub same : words ≡ spelling command

-- the first k words begin the words of some command
pub record Begins (words : List (List ℕ)) (k : ℕ) : Type 0 where
  pub command : Command
  pub is_command : IsCommand command
  pub within : k ≤ length words
  pub same : take k words ≡ take k (spelling command)

-- the words are no command; the first k begin one, and no more do
pub record IsNoCommand (words : List (List ℕ)) (k : ℕ) : Type 0 where
  pub none : (command : Command) → Spells words command → ⊥
  pub begins : Begins words k
  pub greatest : (j : ℕ) → Begins words j → j ≤ k
