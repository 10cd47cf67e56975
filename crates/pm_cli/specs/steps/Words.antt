-- How words are read as a command, piece by piece.
use Rattle.std.specs.Prelude.{◌≡◌, ℕ, suc, ◌<◌, ◌≤◌, ◌^◌, List, [], ◌∷◌, length, take, decimal}
use Rattle.pm_cli.specs.declared.class.Class.TheVariants as class
use Rattle.pm_cli.specs.declared.class.Size.{Size}
use Rattle.pm_cli.specs.declared.command.Command.{Command}
use Rattle.pm_cli.specs.declared.command.Verb.{Verb}
use Rattle.pm_cli.specs.declared.command.Verb.TheVariants as verb
use Rattle.pm_cli.specs.Classes.{IsSize, class_word, checked_word}
use Rattle.pm_cli.specs.Commands.{size_words, number_words, verb_of, behind, IsCommand, AreDrawNumbers}
use Rattle.pm_cli.specs.TreeKinds.{trees_word}

-- the words are none of a set; the first k begin words of the set, and no more do
pub record StopsAt (in_set : List (List ℕ) → Type 0) (words : List (List ℕ)) (k : ℕ) : Type 0 where
  pub whole : List (List ℕ)
  pub is_in : in_set whole
  pub within : k ≤ length words
  pub same : take k words ≡ take k whole
  pub no_more : (other : List (List ℕ)) → in_set other → take (suc k) words ≡ take (suc k) other → ⊥

-- one word with this property
pub record IsOneOf (is_word : List ℕ → Type 0) (words : List (List ℕ)) : Type 0 where
  pub word : List ℕ
  pub is : is_word word
  pub alone : words ≡ word ∷ []

-- the word of some value
abbrev pub IsWordOf : {X : Type 0} → (X → List ℕ) → List ℕ → Type 0
IsWordOf {X} word_of word = (it : X) × (word ≡ word_of it)

-- a class and a size of it
pub record AreSizeWords (words : List (List ℕ)) : Type 0 where
  pub size : Size
  pub admissible : IsSize size
  pub are : words ≡ size_words size []

-- a seed and a count
pub record AreNumberWords (words : List (List ℕ)) : Type 0 where
  pub seed : ℕ
  pub count : ℕ
  pub numbers : AreDrawNumbers seed count
  pub are : words ≡ number_words seed count

-- a seed
abbrev pub IsSeedWord : List ℕ → Type 0
IsSeedWord word = (seed : ℕ) × ((seed < 2 ^ 64) × (word ≡ decimal seed))

abbrev pub AreSeedWords : List (List ℕ) → Type 0
AreSeedWords words = IsOneOf IsSeedWord words

-- a class and a size of it, and then numbers of a set
pub record AreSizedWords (in_set : List (List ℕ) → Type 0) (words : List (List ℕ)) : Type 0 where
  pub size : Size
  pub admissible : IsSize size
  pub rest : List (List ℕ)
  pub numbers : in_set rest
  pub are : words ≡ size_words size rest

-- a class and a size of it, and then a seed and a count
abbrev pub AreDrawWords : List (List ℕ) → Type 0
AreDrawWords words = AreSizedWords AreNumberWords words

-- a class and a size of it, and then a seed
abbrev pub AreTripWords : List (List ℕ) → Type 0
AreTripWords words = AreSizedWords AreSeedWords words

-- the words that may stand behind a verb
abbrev pub AreBehind : Verb → List (List ℕ) → Type 0
AreBehind verb.Close = IsOneOf (IsWordOf trees_word)
AreBehind verb.Open = IsOneOf (λ word. word ≡ class_word class.Eulerian)
AreBehind (verb.OfMap task) = λ words. words ≡ []
AreBehind verb.Check = IsOneOf (IsWordOf checked_word)
AreBehind verb.Sample = AreSizeWords
AreBehind verb.Unsample = IsOneOf (IsWordOf class_word)
AreBehind verb.Draw = AreDrawWords
AreBehind verb.Trip = AreTripWords
AreBehind verb.Census = AreSizeWords

-- the verb, and these words behind it, spell the command
pub record IsBehind (verb : Verb) (words : List (List ℕ)) (command : Command) : Type 0 where
  pub is_command : IsCommand command
  pub is_verb : verb_of command ≡ verb
  pub same : words ≡ behind command
