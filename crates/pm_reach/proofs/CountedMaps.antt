-- Maps counted one after another.
use Rattle.std.proofs.Common.{◌≡◌, ℕ, ◌+◌, ◌≤◌, Bool, true, false, cond, if◌then◌else◌, List, [], ◌∷◌, ◌++◌, fold, length, Some, ap, refl, arith}
use Rattle.std.specs.Prelude.{unwrap_or}
use Rattle.std.specs.Map.{lookup}
use Rattle.std.proofs.lemmas.List.Sums.{fold_push}
use Rattle.indexmap.specs.IndexMap.{insert_entry}
use Rattle.pm_map.specs.Rotation.{RotationSystem}
use Rattle.pm_reach.specs.Census.{is_same_map, number_of, raised, numbers_of}

-- the number of a map is what a look-up finds
pub number-lookup : (map : RotationSystem) (entries : List (RotationSystem × ℕ)) → number_of map entries ≡ unwrap_or (lookup (is_same_map map) entries) 0
number-lookup map [] = refl
number-lookup map (entry ∷ entries) = by (is_same_map map entry.0) (number-lookup map entries)
  where
    by : (b : Bool) → number_of map entries ≡ unwrap_or (lookup (is_same_map map) entries) 0 → (if b then entry.1 else number_of map entries) ≡ unwrap_or (cond b (Some entry.1) (lookup (is_same_map map) entries)) 0
    by true rest = refl
    by false rest = rest

-- a number is raised by writing it anew
pub raised-insert : (map : RotationSystem) (entries : List (RotationSystem × ℕ)) → insert_entry is_same_map entries map (number_of map entries + 1) ≡ raised map entries
raised-insert map [] = refl
raised-insert map (entry ∷ entries) = by (is_same_map map entry.0) (raised-insert map entries)
  where
    by : (b : Bool) → insert_entry is_same_map entries map (number_of map entries + 1) ≡ raised map entries → (if b then (entry.0, (if b then entry.1 else number_of map entries) + 1) ∷ entries
        else entry ∷ insert_entry is_same_map entries map ((if b then entry.1 else number_of map entries) + 1))
        ≡ (if b then (entry.0, entry.1 + 1) ∷ entries else entry ∷ raised map entries)
    by true rest = refl
    by false rest = ap (λ es. entry ∷ es) rest

-- no number grows by more than 1
number-raised : (map other : RotationSystem) (entries : List (RotationSystem × ℕ)) → number_of map (raised other entries) ≤ number_of map entries + 1
number-raised map other [] = by (is_same_map map other)
  where
    by : (b : Bool) → (if b then 1 else 0) ≤ 0 + 1
    by true = omega arith
    by false = omega arith
number-raised map other (entry ∷ entries) = by (is_same_map other entry.0) (number-raised map other entries)
  where
    here : (b : Bool) → (if b then entry.1 + 1 else number_of map entries) ≤ (if b then entry.1 else number_of map entries) + 1
    here true = omega arith
    here false = omega arith

    there : (b : Bool) → number_of map (raised other entries) ≤ number_of map entries + 1 → (if b then entry.1 else number_of map (raised other entries)) ≤ (if b then entry.1 else number_of map entries) + 1
    there true rest = omega arith
    there false rest = rest

    by : (b : Bool) → number_of map (raised other entries) ≤ number_of map entries + 1 → number_of map (if b then (entry.0, entry.1 + 1) ∷ entries else entry ∷ raised other entries) ≤ number_of map (entry ∷ entries) + 1
    by true rest = here (is_same_map map entry.0)
    by false rest = there (is_same_map map entry.0) rest

-- nor does the list by more than one entry
length-raised : (map : RotationSystem) (entries : List (RotationSystem × ℕ)) → length (raised map entries) ≤ length entries + 1
length-raised map [] = omega arith
length-raised map (entry ∷ entries) = by (is_same_map map entry.0) (length-raised map entries)
  where
    by : (b : Bool) → length (raised map entries) ≤ length entries + 1 → length (if b then (entry.0, entry.1 + 1) ∷ entries else entry ∷ raised map entries) ≤ length (entry ∷ entries) + 1
    by true rest = omega arith
    by false rest = omega (arith, rest)

number-after : (map : RotationSystem) (maps : List RotationSystem) (entries : List (RotationSystem × ℕ))
    → number_of map (fold (λ entries map. raised map entries) entries maps) ≤ number_of map entries + length maps
number-after map [] entries = omega arith
number-after map (other ∷ maps) entries = omega (arith, number-after map maps (raised other entries), number-raised map other entries)

length-after : (maps : List RotationSystem) (entries : List (RotationSystem × ℕ))
    → length (fold (λ entries map. raised map entries) entries maps) ≤ length entries + length maps
length-after [] entries = omega arith
length-after (map ∷ maps) entries = omega (arith, length-after maps (raised map entries), length-raised map entries)

-- a map is counted at most as often as there are maps
pub number-numbers : (map : RotationSystem) (maps : List RotationSystem) → number_of map (numbers_of maps) ≤ length maps
number-numbers map maps = omega (arith, number-after map maps [])

-- there are at most as many entries as maps
pub length-numbers : (maps : List RotationSystem) → length (numbers_of maps) ≤ length maps
length-numbers maps = omega (arith, length-after maps [])

-- one map more
pub numbers-push : (maps : List RotationSystem) (map : RotationSystem) → numbers_of (maps ++ map ∷ []) ≡ raised map (numbers_of maps)
numbers-push maps map = fold_push (λ entries map. raised map entries) [] maps map
