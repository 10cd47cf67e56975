-- What holds of each degree of a structure holds where its darts are renumbered.
use Rattle.std.proofs.Common.{ℕ, ◌<◌, arith}
use Rattle.pm_perm.proofs.InverseLemmas.{place_of, place_of-stays}
use Rattle.pm_map.specs.Structure.{Structure, IsStructure, CarriesTo}
use Rattle.pm_map.specs.CycleSize.{IsCycleSize}
use Rattle.pm_map.proofs.CarriedSizes.{size_carried}
use Rattle.pm_map.proofs.SameMaps.{carries_back}

-- the degree of each vertex is one of these
abbrev pub EachDegree : (ℕ → Type 0) → Structure → Type 0
EachDegree Holds s = (d degree : ℕ) → d < s.darts → IsCycleSize s.next d degree → Holds degree

-- so it is where the darts are renumbered
pub each_degree_carried : (Holds : ℕ → Type 0) (f : ℕ → ℕ) (a b : Structure) → IsStructure a → IsStructure b → CarriesTo f a b → EachDegree Holds a → EachDegree Holds b
each_degree_carried Holds f a b is also carries each d degree l size =
    let back : CarriesTo (place_of f a.darts) b a = carries_back f a b is carries in
    let within : d < a.darts = omega (arith, carries.darts, l) in
    each (place_of f a.darts d) degree (place_of-stays f a.darts d carries.renumbers within) (size_carried (place_of f a.darts) b a back also.rotation d degree l size)
