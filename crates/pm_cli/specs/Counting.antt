-- What `census` answers: each map of a class and a size, with the number of its lists.
use Rattle.std.specs.Prelude.{◌≡◌, ℕ, ◌+◌, ◌<◌, ◌≤◌, List, [], ◌∷◌, ◌++◌, length, slice_get, codes, decimal, MatchOption, Result, Ok, Err}
use Rattle.std.specs.List.{sum}
use Rattle.std.specs.Map.{values_of}
use Rattle.pm_text.specs.Broken.{newline}
use Rattle.pm_map.specs.Rotation.{RotationSystem}
use Rattle.pm_mapfile.specs.MapText.{IsMapText}
use Rattle.pm_reach.specs.declared.lists.TheConstants.{MOST_LISTS}
use Rattle.pm_reach.specs.Census.{IsCensus, product}
use Rattle.pm_cli.specs.declared.refusal.Limit.TheVariants.{Lists}
use Rattle.pm_cli.specs.declared.refusal.Refusal.{Refusal}
use Rattle.pm_cli.specs.declared.refusal.Refusal.TheVariants.{Limited}
use Rattle.pm_cli.specs.Records.{AreRecords, HasFirstRecords}

-- the text of the map, and the line of how many lists give it
pub record IsEntryText (map : RotationSystem) (lists : ℕ) (text : List ℕ) : Type 0 where
  pub map_text : List ℕ
  pub is_map_text : IsMapText map map_text
  pub whole : text ≡ map_text ++ codes "lists " ++ decimal lists ++ newline ∷ []

-- the line of how many maps there are, and how many lists
abbrev pub total_line : List (RotationSystem × ℕ) → List ℕ
total_line entries = codes "total " ++ decimal (length entries) ++ codes " " ++ decimal (sum (values_of entries)) ++ newline ∷ []

-- a record of a census: that of the entry at its place, counted from 0, and behind the entries the last line
abbrev pub IsCensusRecord : List (RotationSystem × ℕ) → ℕ → List ℕ → Type 0
IsCensusRecord entries place text = MatchOption (slice_get entries place) (text ≡ total_line entries) (λ entry. IsEntryText entry.0 entry.1 text)

-- the text of the census of the bounds: a record for each entry, and the last line
pub record IsCensusText (bounds : List ℕ) (samples : List ℕ → RotationSystem → List ℕ → Type 0) (text : List ℕ) : Type 0 where
  pub entries : List (RotationSystem × ℕ)
  pub is_census : IsCensus bounds samples entries
  pub are_records : AreRecords (IsCensusRecord entries) (length entries + 1) text

-- the first of these records, any number of them
pub record HasFirstEntries (bounds : List ℕ) (samples : List ℕ → RotationSystem → List ℕ → Type 0) (text : List ℕ) : Type 0 where
  pub entries : List (RotationSystem × ℕ)
  pub is_census : IsCensus bounds samples entries
  pub are_first : HasFirstRecords (IsCensusRecord entries) (length entries + 1) text

-- the answer: the text of the census, or that there are too many lists, by the product of the choice bounds
pub data Counts (bounds : List ℕ) (samples : List ℕ → RotationSystem → List ℕ → Type 0) : Result (List ℕ) Refusal → Type 0 where
  counted : (text : List ℕ) → product bounds ≤ MOST_LISTS → IsCensusText bounds samples text → Counts bounds samples (Ok text)
  too_many : MOST_LISTS < product bounds → Counts bounds samples (Err (Limited Lists))
