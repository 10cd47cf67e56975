-- Which maps stand in a census.
use Rattle.std.proofs.Common.{◌≡◌, ◌⊎◌, inl, inr, ℕ, zero, suc, ◌+◌, ◌<◌, ◌≤◌, Bool, true, false, if◌then◌else◌, List, [], ◌∷◌, ◌++◌, map, fold, length, replicate, ap, sym, ◌∙◌, subst, refl, arith}
use Rattle.std.specs.List.{AllZip}
use Rattle.std.proofs.lemmas.Bool.{true≢false, cases_eq}
use Rattle.std.proofs.lemmas.List.{get_or-replicate, length-replicate}
use Rattle.pm_lists.specs.Valid.{AreBounds, IsValidList}
use Rattle.pm_map.specs.Rotation.{RotationSystem}
use Rattle.pm_class.specs.OneToOne.{AreOneToOne}
use Rattle.pm_reach.specs.Census.{GivesMap, IsCensus, is_same_map, lists_beginning, raised, valid_lists}
use Rattle.pm_reach.specs.CensusLaws.{AreApart, HasEachMapOnce, Stands}
use Rattle.pm_reach.proofs.SameMap.{is_same_map-refl, is_same_map-same}

-- it is one of these
abbrev pub IsOneOf : {X : Type 0} → X → List X → Type 0
IsOneOf x [] = ⊥
IsOneOf x (y ∷ ys) = (x ≡ y) ⊎ IsOneOf x ys

pub one_of-left : {X : Type 0} (x : X) (xs ys : List X) → IsOneOf x xs → IsOneOf x (xs ++ ys)
one_of-left x [] ys h = absurd h
one_of-left x (y ∷ xs) ys (inl h) = inl h
one_of-left x (y ∷ xs) ys (inr h) = inr (one_of-left x xs ys h)

pub one_of-right : {X : Type 0} (x : X) (xs ys : List X) → IsOneOf x ys → IsOneOf x (xs ++ ys)
one_of-right x [] ys h = h
one_of-right x (y ∷ xs) ys h = inr (one_of-right x xs ys h)

pub one_of-map : (first : ℕ) (rest : List ℕ) (rests : List (List ℕ)) → IsOneOf rest rests → IsOneOf (first ∷ rest) (map (λ rest. first ∷ rest) rests)
one_of-map first rest [] h = absurd h
one_of-map first rest (other ∷ rests) (inl h) = inl (ap (λ list. first ∷ list) h)
one_of-map first rest (other ∷ rests) (inr h) = inr (one_of-map first rest rests h)

one_of-beginning : (first more entry : ℕ) (rest : List ℕ) (rests : List (List ℕ)) → first ≤ entry → entry < first + more → IsOneOf rest rests
    → IsOneOf (entry ∷ rest) (lists_beginning first more rests)
one_of-beginning first zero entry rest rests least below h = absurd (omega arith)
one_of-beginning first (suc more) entry rest rests least below h = elim (cases_eq entry first) [
  | inl here ↦ one_of-left (entry ∷ rest) (map (λ rest. first ∷ rest) rests) (lists_beginning (suc first) more rests)
      (subst (λ e. IsOneOf (e ∷ rest) (map (λ rest. first ∷ rest) rests)) (sym here) (one_of-map first rest rests h))
  | inr other ↦ one_of-right (entry ∷ rest) (map (λ rest. first ∷ rest) rests) (lists_beginning (suc first) more rests)
      (one_of-beginning (suc first) more entry rest rests (omega (arith, other)) (omega arith) h)
]

-- each valid list is among the valid lists
pub valid_is_listed : (bounds values : List ℕ) → IsValidList values bounds → IsOneOf values (valid_lists bounds)
valid_is_listed [] [] valid = inl refl
valid_is_listed [] (value ∷ values) valid = absurd (omega (arith, valid.as_long))
valid_is_listed (bound ∷ bounds) [] valid = absurd (omega (arith, valid.as_long))
valid_is_listed (bound ∷ bounds) (value ∷ values) valid =
    one_of-beginning 0 bound value values (valid_lists bounds) (omega arith) (omega (arith, valid.below 0 (omega arith)))
    (valid_is_listed bounds values (record {
      as_long = omega (arith, valid.as_long);
      below = λ place within. valid.below (suc place) (omega arith);
    }))

-- a list that is taken gives a map that is met
met : (samples : List ℕ → RotationSystem → List ℕ → Type 0) (lists : List (List ℕ)) (maps : List RotationSystem) (list : List ℕ)
    → AllZip (GivesMap samples) lists maps → IsOneOf list lists → (map : RotationSystem) × (GivesMap samples list map × IsOneOf map maps)
met samples [] maps list zip h = absurd h
met samples (other ∷ lists) [] list zip h = absurd zip
met samples (other ∷ lists) (map ∷ maps) list zip (inl h) = (map, (subst (λ l. GivesMap samples l map) (sym h) zip.0, inl refl))
met samples (other ∷ lists) (map ∷ maps) list zip (inr h) =
    let rest = met samples lists maps list zip.1 h in
    (rest.0, (rest.1.0, inr rest.1.1))

-- a map that is met is given by some list
given : (samples : List ℕ → RotationSystem → List ℕ → Type 0) (lists : List (List ℕ)) (maps : List RotationSystem) (map : RotationSystem)
    → AllZip (GivesMap samples) lists maps → IsOneOf map maps → (list : List ℕ) × GivesMap samples list map
given samples lists [] map zip h = absurd h
given samples [] (other ∷ maps) map zip h = absurd zip
given samples (list ∷ lists) (other ∷ maps) map zip (inl h) = (list, subst (GivesMap samples list) (sym h) zip.0)
given samples (list ∷ lists) (other ∷ maps) map zip (inr h) = given samples lists maps map zip.1 h

-- a map that stands there stays
stays : (map other : RotationSystem) (entries : List (RotationSystem × ℕ)) → Stands map entries → Stands map (raised other entries)
stays map other [] h = absurd h
stays map other (entry ∷ entries) h = by (is_same_map other entry.0) h (λ rest. stays map other entries rest)
  where
    by : (b : Bool) → (map ≡ entry.0) ⊎ Stands map entries → (Stands map entries → Stands map (raised other entries))
        → Stands map (if b then (entry.0, entry.1 + 1) ∷ entries else entry ∷ raised other entries)
    by true h rest = h
    by false (inl h) rest = inl h
    by false (inr h) rest = inr (rest h)

-- the map that is counted stands there
enters : (map : RotationSystem) (entries : List (RotationSystem × ℕ)) → Stands map (raised map entries)
enters map [] = inl refl
enters map (entry ∷ entries) = by (is_same_map map entry.0) refl (enters map entries)
  where
    by : (b : Bool) → is_same_map map entry.0 ≡ b → Stands map (raised map entries)
        → Stands map (if b then (entry.0, entry.1 + 1) ∷ entries else entry ∷ raised map entries)
    by true is rest = inl (is_same_map-same map entry.0 is)
    by false is rest = inr rest

-- no other map enters
only_enters : (map other : RotationSystem) (entries : List (RotationSystem × ℕ)) → Stands map (raised other entries) → (map ≡ other) ⊎ Stands map entries
only_enters map other [] (inl h) = inl h
only_enters map other [] (inr h) = absurd h
only_enters map other (entry ∷ entries) h = by (is_same_map other entry.0) h (λ rest. only_enters map other entries rest)
  where
    by : (b : Bool) → Stands map (if b then (entry.0, entry.1 + 1) ∷ entries else entry ∷ raised other entries)
        → (Stands map (raised other entries) → (map ≡ other) ⊎ Stands map entries) → (map ≡ other) ⊎ ((map ≡ entry.0) ⊎ Stands map entries)
    by true h rest = inr h
    by false (inl h) rest = inr (inl h)
    by false (inr h) rest = elim (rest h) [ inl is ↦ inl is | inr there ↦ inr (inr there) ]

-- the entries stay apart
apart-raised : (map : RotationSystem) (entries : List (RotationSystem × ℕ)) → AreApart entries → AreApart (raised map entries)
apart-raised map [] apart = (λ h. h, tt)
apart-raised map (entry ∷ entries) apart = by (is_same_map map entry.0) refl (apart-raised map entries apart.1)
  where
    by : (b : Bool) → is_same_map map entry.0 ≡ b → AreApart (raised map entries)
        → AreApart (if b then (entry.0, entry.1 + 1) ∷ entries else entry ∷ raised map entries)
    by true is rest = apart
    by false is rest = (
      λ h. elim (only_enters entry.0 map entries h) [
        | inl same ↦ true≢false (sym (is_same_map-refl map) ∙ ap (is_same_map map) (sym same) ∙ is)
        | inr there ↦ apart.0 there
      ],
      rest,
    )

-- the same for all maps that are counted
apart-after : (maps : List RotationSystem) (entries : List (RotationSystem × ℕ)) → AreApart entries → AreApart (fold (λ entries map. raised map entries) entries maps)
apart-after [] entries apart = apart
apart-after (map ∷ maps) entries apart = apart-after maps (raised map entries) (apart-raised map entries apart)

stays-after : (map : RotationSystem) (maps : List RotationSystem) (entries : List (RotationSystem × ℕ)) → Stands map entries
    → Stands map (fold (λ entries map. raised map entries) entries maps)
stays-after map [] entries h = h
stays-after map (other ∷ maps) entries h = stays-after map maps (raised other entries) (stays map other entries h)

enters-after : (map : RotationSystem) (maps : List RotationSystem) (entries : List (RotationSystem × ℕ)) → IsOneOf map maps
    → Stands map (fold (λ entries map. raised map entries) entries maps)
enters-after map [] entries h = absurd h
enters-after map (other ∷ maps) entries (inl h) =
    stays-after map maps (raised other entries) (subst (λ m. Stands map (raised m entries)) h (enters map entries))
enters-after map (other ∷ maps) entries (inr h) = enters-after map maps (raised other entries) h

only-after : (map : RotationSystem) (maps : List RotationSystem) (entries : List (RotationSystem × ℕ))
    → Stands map (fold (λ entries map. raised map entries) entries maps) → IsOneOf map maps ⊎ Stands map entries
only-after map [] entries h = inr h
only-after map (other ∷ maps) entries h = elim (only-after map maps (raised other entries) h) [
  | inl later ↦ inl (inr later)
  | inr there ↦ elim (only_enters map other entries there) [ inl is ↦ inl (inl is) | inr before ↦ inr before ]
]

-- a census has each map of the class and size once, and no other
pub has_each_map_once : (bounds residues : List ℕ) (has : RotationSystem → Type 0) (samples : List ℕ → RotationSystem → List ℕ → Type 0) (entries : List (RotationSystem × ℕ))
    → AreBounds residues → AreOneToOne bounds residues has samples → IsCensus bounds samples entries → HasEachMapOnce has entries
has_each_map_once bounds residues has samples entries are one c = record {
  once = subst AreApart (sym c.counted) (apart-after c.maps [] tt);
  each = λ map member.
      let residue : List ℕ = replicate (length residues) 0 in
      let valid : IsValidList residue residues = record {
        as_long = length-replicate {A = ℕ} (length residues) 0;
        below = λ place within. omega (arith, get_or-replicate {A = ℕ} (length residues) place 0 0 (omega (arith, length-replicate {A = ℕ} (length residues) 0)), are.each place 0 (omega (arith, length-replicate {A = ℕ} (length residues) 0)));
      } in
      let from = one.each_pair map residue member valid in
      let listed = valid_is_listed bounds from.choices (one.only from.choices map residue from.given).valid in
      let found = met samples (valid_lists bounds) c.maps from.choices c.given listed in
      let same : map ≡ found.0 = (one.one_sample from.choices map found.0 residue found.1.0.residue from.given found.1.0.given).0 in
      subst (Stands map) (sym c.counted) (enters-after map c.maps [] (subst (λ m. IsOneOf m c.maps) (sym same) found.1.1));
  only = λ map there.
      elim (only-after map c.maps [] (subst (Stands map) c.counted there)) [
        | inl h ↦
            let from = given samples (valid_lists bounds) c.maps map c.given h in
            (one.only from.0 map from.1.residue from.1.given).member
        | inr none ↦ absurd none
      ];
}
