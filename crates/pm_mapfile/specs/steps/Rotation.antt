-- How the rotation is found: the dart after each place of the lines, and the dart after each dart.
use Rattle.std.specs.Prelude.{◌≡◌, ℕ, ◌<◌, ◌==◌, if◌then◌else◌, List, [], ◌∷◌, ◌++◌, All, Option, Some, None, MatchOption, Result, Ok, Err, ⊤, Vec, length, sum, map, take, drop, slice_index, slice_index_or}
use Rattle.std.specs.List.{concat}
use Rattle.std.specs.declared.alloc.Global.{Global}
use Rattle.pm_map.specs.declared.rooted_map.RootedMap.{RootedMap}
use Rattle.pm_map.specs.declared.refusal.MapRefusal.{MapRefusal}
use Rattle.pm_map.specs.declared.refusal.MapRefusal.TheVariants.{Memory, TooMany, NotPermutation, NotConnected, Genus}
use Rattle.pm_map.specs.Missing.{IsLeastMissing}
use Rattle.pm_mapfile.specs.MapFile.{AreMapLines}
use Rattle.pm_mapfile.specs.Answers.{IsLinesAnswer}

-- the line turned by one dart: what stands after each of its darts, around the line
abbrev pub turned : List ℕ → List ℕ
turned [] = []
turned (dart ∷ darts) = darts ++ dart ∷ []

-- the darts of lines of these sizes, each line turned
abbrev pub turned_lines : List ℕ → List ℕ → List ℕ
turned_lines [] darts = []
turned_lines (size ∷ sizes) darts = turned (take size darts) ++ turned_lines sizes (drop size darts)

-- lines of these sizes, each at least 1, have so many darts
pub record AreSizes (sizes : List ℕ) (darts : ℕ) : Type 0 where
  pub some : All (λ size. 0 < size) sizes
  pub total : sum sizes ≡ darts

-- the dart stands at one of the first places, and this one after it
pub record IsFollowed (darts after : List ℕ) (count dart next : ℕ) : Type 0 where
  pub place : ℕ
  pub within : place < count
  pub here : slice_index darts place ≡ dart
  pub is_next : next ≡ slice_index after place

-- for each dart the one after it, where the dart stands at one of the first places, and none where it doesn't
pub record AreFollowers (darts after : List ℕ) (count : ℕ) (followers : List (Option ℕ)) : Type 0 where
  pub size : length followers ≡ length darts
  pub each : (dart : ℕ) → dart < length darts
      → MatchOption (slice_index_or followers dart None) ((place : ℕ) → place < count → slice_index darts place ≡ dart → ⊥) (IsFollowed darts after count dart)

-- the dart after one, as it is written: the greatest number of 32 bits stands for none
abbrev pub told_dart : ℕ → Option ℕ
told_dart value = if value == 4294967295 then None else Some value

-- the list has the numbers that are told, and all are
pub record AreAllTold (followers : List (Option ℕ)) (values : List ℕ) : Type 0 where
  pub size : length values ≡ length followers
  pub each : (place : ℕ) → place < length followers → slice_index_or followers place None ≡ Some (slice_index values place)

-- the first place at which no number is told
pub record IsFirstUntold (followers : List (Option ℕ)) (place : ℕ) : Type 0 where
  pub within : place < length followers
  pub untold : slice_index_or followers place None ≡ None
  pub before : (earlier : ℕ) → earlier < place → (value : ℕ) × (slice_index_or followers earlier None ≡ Some value)

-- each dart is carried to the one after it
pub record CarriesOn (darts after sigma : List ℕ) : Type 0 where
  pub size : length sigma ≡ length darts
  pub each : (dart : ℕ) → dart < length darts → IsFollowed darts after (length darts) dart (slice_index sigma dart)

-- the rotation that the lines tell, or the least dart that stands on none
abbrev pub IsRotationAnswer : List ℕ → List ℕ → Result (Vec ℕ Global) MapRefusal → Type 0
IsRotationAnswer darts sizes (Ok sigma) = CarriesOn darts (turned_lines sizes darts) sigma.items
IsRotationAnswer darts sizes (Err (NotPermutation dart)) = IsLeastMissing darts dart
IsRotationAnswer darts sizes (Err Memory) = ⊤
IsRotationAnswer darts sizes (Err (TooMany edges)) = ⊥
IsRotationAnswer darts sizes (Err (NotConnected dart)) = ⊥
IsRotationAnswer darts sizes (Err (Genus euler)) = ⊥

-- how many vertices lines of these sizes tell: one where there is no line
abbrev pub vertices_of_lines : List ℕ → ℕ
vertices_of_lines [] = 1
vertices_of_lines (size ∷ sizes) = length (size ∷ sizes)

-- what was read are the lines of a map text
pub record TellsLines (edges root : ℕ) (darts sizes : List ℕ) : Type 0 where
  pub vertices : List (List ℕ)
  pub are_lines : AreMapLines (record { edges = edges; root = root; vertices = vertices })
  pub darts_are : darts ≡ concat vertices
  pub sizes_are : sizes ≡ map length vertices

-- the answer to what was read
abbrev pub IsTextAnswer : ℕ → ℕ → List ℕ → List ℕ → ℕ → Result RootedMap MapRefusal → Type 0
IsTextAnswer edges root darts sizes limit answer = (vertices : List (List ℕ)) → AreMapLines (record { edges = edges; root = root; vertices = vertices })
    → darts ≡ concat vertices → sizes ≡ map length vertices → IsLinesAnswer (record { edges = edges; root = root; vertices = vertices }) limit answer
