-- A class and a size have one census.
use Rattle.std.proofs.Common.{◌≡◌, ℕ, List, [], ◌∷◌, ap, sym, ◌∙◌, refl}
use Rattle.std.specs.List.{AllZip}
use Rattle.pm_map.specs.Rotation.{RotationSystem}
use Rattle.pm_class.specs.Sampling.{HasOneSample}
use Rattle.pm_reach.specs.Census.{GivesMap, IsCensus, numbers_of, valid_lists}

-- lists give one list of maps
one_maps : (samples : List ℕ → RotationSystem → List ℕ → Type 0) → HasOneSample samples → (lists : List (List ℕ)) (one other : List RotationSystem)
    → AllZip (GivesMap samples) lists one → AllZip (GivesMap samples) lists other → one ≡ other
one_maps samples alone [] [] [] a b = refl
one_maps samples alone [] [] (map ∷ maps) a b = absurd b
one_maps samples alone [] (map ∷ maps) other a b = absurd a
one_maps samples alone (list ∷ lists) [] other a b = absurd a
one_maps samples alone (list ∷ lists) (map ∷ maps) [] a b = absurd b
one_maps samples alone (list ∷ lists) (one ∷ ones) (other ∷ others) a b =
    ap (λ map. map ∷ ones) (alone list one other a.0.residue b.0.residue a.0.given b.0.given).0
    ∙ ap (λ maps. other ∷ maps) (one_maps samples alone lists ones others a.1 b.1)

pub one_census : (bounds : List ℕ) (samples : List ℕ → RotationSystem → List ℕ → Type 0) (one other : List (RotationSystem × ℕ)) → HasOneSample samples
    → IsCensus bounds samples one → IsCensus bounds samples other → one ≡ other
one_census bounds samples one other alone a b =
    a.counted ∙ ap numbers_of (one_maps samples alone (valid_lists bounds) a.maps b.maps a.given b.given) ∙ sym b.counted
