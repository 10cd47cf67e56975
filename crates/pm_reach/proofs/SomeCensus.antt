-- Where each valid list gives a map there is a census.
use Rattle.std.proofs.Common.{◌≡◌, inl, inr, ℕ, List, [], ◌∷◌, refl}
use Rattle.std.specs.List.{AllZip}
use Rattle.pm_lists.specs.Valid.{IsValidList}
use Rattle.pm_map.specs.Rotation.{RotationSystem}
use Rattle.pm_class.specs.OneToOne.{AreOneToOne}
use Rattle.pm_reach.specs.Census.{GivesMap, IsCensus, numbers_of, valid_lists}
use Rattle.pm_reach.proofs.Distinct.{listed_is_valid}
use Rattle.pm_reach.proofs.StandingMaps.{IsOneOf}

-- the maps of lists that each give one
some_maps : (samples : List ℕ → RotationSystem → List ℕ → Type 0) (lists : List (List ℕ)) → ((list : List ℕ) → IsOneOf list lists → (map : RotationSystem) × GivesMap samples list map)
    → (maps : List RotationSystem) × AllZip (GivesMap samples) lists maps
some_maps samples [] each = ([], tt)
some_maps samples (list ∷ lists) each =
    let first = each list (inl refl) in
    let rest = some_maps samples lists (λ other h. each other (inr h)) in
    (first.0 ∷ rest.0, (first.1, rest.1))

pub some_census : (bounds residues : List ℕ) (has : RotationSystem → Type 0) (samples : List ℕ → RotationSystem → List ℕ → Type 0)
    → AreOneToOne bounds residues has samples → (entries : List (RotationSystem × ℕ)) × IsCensus bounds samples entries
some_census bounds residues has samples one =
    let maps = some_maps samples (valid_lists bounds) (λ list h.
    let given = one.each_list list (listed_is_valid bounds list h) in (given.map, record { residue = given.residue; given = given.given })) in
    (numbers_of maps.0, record { maps = maps.0; given = maps.1; counted = refl })
