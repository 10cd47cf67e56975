-- The number of a map in a census: there is a list of choices for each valid residue.
use Rattle.std.proofs.Common.{◌≡◌, ◌⊎◌, inl, inr, ℕ, ◌+◌, Bool, true, false, if◌then◌else◌, List, [], ◌∷◌, fold, length, ap, sym, ◌∙◌, subst, refl, arith}
use Rattle.std.specs.List.{AllZip}
use Rattle.std.proofs.lemmas.Bool.{true≢false}
use Rattle.pm_map.specs.Rotation.{RotationSystem}
use Rattle.pm_class.specs.OneToOne.{AreOneToOne, IsMember}
use Rattle.pm_class.specs.Sampling.{HasOneSample}
use Rattle.pm_class.specs.Unsampling.{HasOneList}
use Rattle.pm_reach.specs.Census.{GivesMap, IsCensus, is_same_map, number_of, product, raised, valid_lists}
use Rattle.pm_reach.proofs.Distinct.{AreDistinct, listed_is_valid, no_longer, valid_lists-distinct}
use Rattle.pm_reach.proofs.ListWalk.{length-valid_lists}
use Rattle.pm_reach.proofs.SameMap.{is_same_map-refl, is_same_map-same}
use Rattle.pm_reach.proofs.StandingMaps.{IsOneOf, valid_is_listed}

-- the number of the map that is counted grows by 1, and no other
grows : (map other : RotationSystem) (entries : List (RotationSystem × ℕ))
    → number_of map (raised other entries) ≡ number_of map entries + (if is_same_map map other then 1 else 0)
grows map other [] = by (is_same_map map other)
  where
    by : (b : Bool) → (if b then 1 else 0) ≡ 0 + (if b then 1 else 0)
    by true = omega arith
    by false = omega arith
grows map other (entry ∷ entries) = by (is_same_map other entry.0) refl (grows map other entries)
  where
    here : (b : Bool) → (if b then entry.1 + 1 else number_of map entries) ≡ (if b then entry.1 else number_of map entries) + (if b then 1 else 0)
    here true = omega arith
    here false = omega arith

    there : (b d : Bool) → is_same_map map entry.0 ≡ b → is_same_map map other ≡ d → is_same_map other entry.0 ≡ false
        → number_of map (raised other entries) ≡ number_of map entries + (if d then 1 else 0)
        → (if b then entry.1 else number_of map (raised other entries)) ≡ (if b then entry.1 else number_of map entries) + (if d then 1 else 0)
    there true true is_b is_d apart rest =
        absurd (true≢false (sym (is_same_map-refl entry.0)
        ∙ ap (λ m. is_same_map m entry.0) (sym (is_same_map-same map entry.0 is_b) ∙ is_same_map-same map other is_d) ∙ apart))
    there true false is_b is_d apart rest = omega arith
    there false d is_b is_d apart rest = rest

    by : (b : Bool) → is_same_map other entry.0 ≡ b → number_of map (raised other entries) ≡ number_of map entries + (if is_same_map map other then 1 else 0)
        → number_of map (if b then (entry.0, entry.1 + 1) ∷ entries else entry ∷ raised other entries)
        ≡ number_of map (entry ∷ entries) + (if is_same_map map other then 1 else 0)
    by true is rest =
        subst (λ m. (if is_same_map map entry.0 then entry.1 + 1 else number_of map entries) ≡ (if is_same_map map entry.0 then entry.1 else number_of map entries) + (if is_same_map map m then 1 else 0))
        (sym (is_same_map-same other entry.0 is)) (here (is_same_map map entry.0))
    by false is rest = there (is_same_map map entry.0) (is_same_map map other) refl refl is rest

-- the residues with which lists give the map
abbrev residues_given : (samples : List ℕ → RotationSystem → List ℕ → Type 0) (map : RotationSystem) (lists : List (List ℕ)) (maps : List RotationSystem)
    → AllZip (GivesMap samples) lists maps → List (List ℕ)
residues_given samples map [] maps zip = []
residues_given samples map (list ∷ lists) [] zip = []
residues_given samples map (list ∷ lists) (other ∷ maps) zip =
    if is_same_map map other then zip.0.residue ∷ residues_given samples map lists maps zip.1 else residues_given samples map lists maps zip.1

-- they are as many as the map is counted
number-residues : (samples : List ℕ → RotationSystem → List ℕ → Type 0) (map : RotationSystem) (lists : List (List ℕ)) (maps : List RotationSystem)
    (zip : AllZip (GivesMap samples) lists maps) (entries : List (RotationSystem × ℕ))
    → number_of map (fold (λ entries map. raised map entries) entries maps) ≡ number_of map entries + length (residues_given samples map lists maps zip)
number-residues samples map [] [] zip entries = omega arith
number-residues samples map [] (other ∷ maps) zip entries = absurd zip
number-residues samples map (list ∷ lists) [] zip entries = absurd zip
number-residues samples map (list ∷ lists) (other ∷ maps) zip entries =
    by (is_same_map map other) (number-residues samples map lists maps zip.1 (raised other entries)) (grows map other entries)
  where
    by : (b : Bool) → number_of map (fold (λ entries map. raised map entries) (raised other entries) maps)
        ≡ number_of map (raised other entries) + length (residues_given samples map lists maps zip.1)
        → number_of map (raised other entries) ≡ number_of map entries + (if b then 1 else 0)
        → number_of map (fold (λ entries map. raised map entries) (raised other entries) maps)
        ≡ number_of map entries + length (if b then zip.0.residue ∷ residues_given samples map lists maps zip.1 else residues_given samples map lists maps zip.1)
    by true rest one = omega (arith, rest, one)
    by false rest one = omega (arith, rest, one)

-- a list that gives the map with the residue
record Giver (samples : List ℕ → RotationSystem → List ℕ → Type 0) (map : RotationSystem) (residue : List ℕ) (lists : List (List ℕ)) : Type 0 where
  list : List ℕ
  gives : samples list map residue
  among : IsOneOf list lists

-- each of them has such a list
giver : (samples : List ℕ → RotationSystem → List ℕ → Type 0) (map : RotationSystem) (lists : List (List ℕ)) (maps : List RotationSystem)
    (zip : AllZip (GivesMap samples) lists maps) (residue : List ℕ) → IsOneOf residue (residues_given samples map lists maps zip) → Giver samples map residue lists
giver samples map [] maps zip residue h = absurd h
giver samples map (list ∷ lists) [] zip residue h = absurd zip
giver samples map (list ∷ lists) (other ∷ maps) zip residue h =
    by (is_same_map map other) refl h (λ k. giver samples map lists maps zip.1 residue k)
  where
    later : Giver samples map residue lists → Giver samples map residue (list ∷ lists)
    later g = record { list = g.list; gives = g.gives; among = inr g.among }

    by : (b : Bool) → is_same_map map other ≡ b
        → IsOneOf residue (if b then zip.0.residue ∷ residues_given samples map lists maps zip.1 else residues_given samples map lists maps zip.1)
        → (IsOneOf residue (residues_given samples map lists maps zip.1) → Giver samples map residue lists) → Giver samples map residue (list ∷ lists)
    by true is (inl h) rest = record {
      list = list;
      gives = subst (samples list map) (sym h) (subst (λ m. samples list m zip.0.residue) (sym (is_same_map-same map other is)) zip.0.given);
      among = inl refl;
    }
    by true is (inr h) rest = later (rest h)
    by false is h rest = later (rest h)

-- each list that gives the map has its residue there
has_residue : (samples : List ℕ → RotationSystem → List ℕ → Type 0) → HasOneSample samples → (map : RotationSystem) (lists : List (List ℕ)) (maps : List RotationSystem)
    (zip : AllZip (GivesMap samples) lists maps) (list residue : List ℕ) → samples list map residue → IsOneOf list lists
    → IsOneOf residue (residues_given samples map lists maps zip)
has_residue samples alone map [] maps zip list residue given h = absurd h
has_residue samples alone map (other ∷ lists) [] zip list residue given h = absurd zip
has_residue samples alone map (other ∷ lists) (met ∷ maps) zip list residue given h =
    by (is_same_map map met) refl h (λ k. has_residue samples alone map lists maps zip.1 list residue given k)
  where
    same : list ≡ other → (map ≡ met) × (residue ≡ zip.0.residue)
    same is = alone list map met residue zip.0.residue given (subst (λ l. samples l met zip.0.residue) (sym is) zip.0.given)

    by : (b : Bool) → is_same_map map met ≡ b → (list ≡ other) ⊎ IsOneOf list lists
        → (IsOneOf list lists → IsOneOf residue (residues_given samples map lists maps zip.1))
        → IsOneOf residue (if b then zip.0.residue ∷ residues_given samples map lists maps zip.1 else residues_given samples map lists maps zip.1)
    by true is (inl h) rest = inl (same h).1
    by true is (inr h) rest = inr (rest h)
    by false is (inl h) rest = absurd (true≢false (sym (is_same_map-refl map) ∙ ap (is_same_map map) (same h).0 ∙ is))
    by false is (inr h) rest = rest h

-- no residue is there twice
residues-distinct : (samples : List ℕ → RotationSystem → List ℕ → Type 0) → HasOneList samples → (map : RotationSystem) (lists : List (List ℕ)) (maps : List RotationSystem)
    (zip : AllZip (GivesMap samples) lists maps) → AreDistinct lists → AreDistinct (residues_given samples map lists maps zip)
residues-distinct samples alone map [] maps zip distinct = tt
residues-distinct samples alone map (list ∷ lists) [] zip distinct = absurd zip
residues-distinct samples alone map (list ∷ lists) (other ∷ maps) zip distinct =
    by (is_same_map map other) refl (residues-distinct samples alone map lists maps zip.1 distinct.1)
  where
    by : (b : Bool) → is_same_map map other ≡ b → AreDistinct (residues_given samples map lists maps zip.1)
        → AreDistinct (if b then zip.0.residue ∷ residues_given samples map lists maps zip.1 else residues_given samples map lists maps zip.1)
    by true is rest = (
      λ h.
          let g = giver samples map lists maps zip.1 zip.0.residue h in
          let here : samples list map zip.0.residue = subst (λ m. samples list m zip.0.residue) (sym (is_same_map-same map other is)) zip.0.given in
          distinct.0 (subst (λ l. IsOneOf l lists) (alone g.list list map zip.0.residue g.gives here) g.among),
      rest,
    )
    by false is rest = rest

-- the number of a map is the product of the residue bounds
pub number_is_product : (bounds residues : List ℕ) (has : RotationSystem → Type 0) (samples : List ℕ → RotationSystem → List ℕ → Type 0) (entries : List (RotationSystem × ℕ)) (map : RotationSystem)
    → AreOneToOne bounds residues has samples → IsCensus bounds samples entries → IsMember has map → number_of map entries ≡ product residues
number_is_product bounds residues has samples entries map one c member =
    let given : List (List ℕ) = residues_given samples map (valid_lists bounds) c.maps c.given in
    let counted = ap (number_of map) c.counted ∙ number-residues samples map (valid_lists bounds) c.maps c.given [] in
    let few = no_longer given (valid_lists residues) (residues-distinct samples one.one_list map (valid_lists bounds) c.maps c.given (valid_lists-distinct bounds))
    (λ residue h.
    let g = giver samples map (valid_lists bounds) c.maps c.given residue h in
    valid_is_listed residues residue (one.only g.list map residue g.gives).valid_residue) in
    let many = no_longer (valid_lists residues) given (valid_lists-distinct residues)
    (λ residue h.
    let from = one.each_pair map residue member (listed_is_valid residues residue h) in
    has_residue samples one.one_sample map (valid_lists bounds) c.maps c.given from.choices residue from.given
    (valid_is_listed bounds from.choices (one.only from.choices map residue from.given).valid)) in
    omega (arith, counted, few, many, length-valid_lists residues)
