-- The census of a class and a size: each map that its valid lists of choices give, with the number of those lists.
use Rattle.std.specs.Prelude.{◌≡◌, ℕ, zero, suc, ◌+◌, ◌*◌, ◌<◌, ◌≤◌, Bool, nat_eq, if◌then◌else◌, List, [], ◌∷◌, ◌++◌, map, fold, length, slice_index, Result, Ok, Err, ⊤}
use Rattle.std.specs.List.{AllZip}
use Rattle.std.specs.Ordering.{on, eq_of_both}
use Rattle.std.specs.Cmp.Lexicographic.{pointwise}
use Rattle.pm_map.specs.Rotation.{RotationSystem}
use Rattle.pm_reach.specs.declared.lists.TheConstants.{MOST_LISTS}
use Rattle.pm_reach.specs.declared.counting.CensusRefusal.{CensusRefusal}
use Rattle.pm_reach.specs.declared.counting.CensusRefusal.TheVariants.{Memory, TooManyLists}

-- the product of the numbers
abbrev pub product : List ℕ → ℕ
product [] = 1
product (number ∷ numbers) = number * product numbers

-- the lists that begin with one of so many numbers, from the first on, and go on as one of these
abbrev pub lists_beginning : ℕ → ℕ → List (List ℕ) → List (List ℕ)
lists_beginning first zero rests = []
lists_beginning first (suc more) rests = map (λ rest. first ∷ rest) rests ++ lists_beginning (suc first) more rests

-- the valid lists of the bounds in dictionary order: the first entry weighs most
abbrev pub valid_lists : List ℕ → List (List ℕ)
valid_lists [] = [] ∷ []
valid_lists (bound ∷ bounds) = lists_beginning 0 bound (valid_lists bounds)

-- The list after this one in dictionary order, at one of its places: what stands before it stays, the entry there is one
-- greater, and behind it the greatest entries give way to zeros.
pub record IsNextAt (bounds values next : List ℕ) (place : ℕ) : Type 0 where
  pub within : place < length values
  pub as_long : length next ≡ length values
  pub before : (earlier : ℕ) → earlier < place → slice_index next earlier ≡ slice_index values earlier
  pub greater : slice_index next place ≡ slice_index values place + 1
  pub below : slice_index next place < slice_index bounds place
  pub greatest : (later : ℕ) → place < later → later < length values → slice_index values later + 1 ≡ slice_index bounds later
  pub zeros : (later : ℕ) → place < later → later < length values → slice_index next later ≡ 0

-- the list after this one in dictionary order
pub record IsNextList (bounds values next : List ℕ) : Type 0 where
  pub place : ℕ
  pub there : IsNextAt bounds values next place

-- no list is after this one: each entry is the greatest below its bound
pub record IsLastList (bounds values : List ℕ) : Type 0 where
  pub greatest : (place : ℕ) → place < length values → slice_index values place + 1 ≡ slice_index bounds place

-- the two maps have the same rotation and the same root
abbrev pub is_same_map : RotationSystem → RotationSystem → Bool
is_same_map = eq_of_both (on (λ map. map.sigma) (pointwise nat_eq)) (on (λ map. map.root) nat_eq)

-- the number of the map in the list, or 0 where it doesn't stand there
abbrev pub number_of : RotationSystem → List (RotationSystem × ℕ) → ℕ
number_of map [] = 0
number_of map (entry ∷ entries) = if is_same_map map entry.0 then entry.1 else number_of map entries

-- one more list of this map: its number is raised, and a map that doesn't stand there goes last with the number 1
abbrev pub raised : RotationSystem → List (RotationSystem × ℕ) → List (RotationSystem × ℕ)
raised map [] = (map, 1) ∷ []
raised map (entry ∷ entries) = if is_same_map map entry.0 then (entry.0, entry.1 + 1) ∷ entries else entry ∷ raised map entries

-- the maps in the order in which they are met first, each with the number of times that it is met
abbrev pub numbers_of : List RotationSystem → List (RotationSystem × ℕ)
numbers_of maps = fold (λ entries map. raised map entries) [] maps

-- the choices give the map, with some residue
pub record GivesMap (samples : List ℕ → RotationSystem → List ℕ → Type 0) (choices : List ℕ) (map : RotationSystem) : Type 0 where
  pub residue : List ℕ
  pub given : samples choices map residue

-- each map that a valid list of choices gives, with the number of those lists, in the order in which the maps are met first
-- when the lists are taken in dictionary order
pub record IsCensus (bounds : List ℕ) (samples : List ℕ → RotationSystem → List ℕ → Type 0) (entries : List (RotationSystem × ℕ)) : Type 0 where
  pub maps : List RotationSystem
  pub given : AllZip (GivesMap samples) (valid_lists bounds) maps
  pub counted : entries ≡ numbers_of maps

-- The census, or that there are too many lists. Want of memory may come at any size.
abbrev pub IsCensusAnswer : List ℕ → (List ℕ → RotationSystem → List ℕ → Type 0) → Result (List (RotationSystem × ℕ)) CensusRefusal → Type 0
IsCensusAnswer bounds samples (Ok entries) = (product bounds ≤ MOST_LISTS) × IsCensus bounds samples entries
IsCensusAnswer bounds samples (Err TooManyLists) = MOST_LISTS < product bounds
IsCensusAnswer bounds samples (Err Memory) = ⊤
