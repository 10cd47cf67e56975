use Rattle.std.proofs.Common.{◌<◌, ◌≤◌, ℕ, suc, length, slice_index, sym, subst, arith}
use Rattle.pm_map.specs.Rotation.{structure_of, twin}
use Rattle.pm_map.proofs.DistanceLemmas.{face_itself}
use Rattle.pm_reach.proofs.NearerFaces.{AreLevels, levels_of_distances, nearer_lower, lower_nearer, less_told, told_less}
use Rattle.pm_reach.proofs.layering.leads_nearer.Goals as goal

pub bounds-distances-twin : goal.bounds-distances-twin
bounds-distances-twin c =
    subst (λ d. d < length c.args.distances.now) (sym c.twin.ensures)
    (let stays = c.requires.map.structure.twin_stays c.args.dart c.requires.within in omega (arith, c.requires.distances.as_long, stays))

pub returns : goal.returns
returns c =
    let level : ℕ → ℕ = slice_index c.args.distances.now in
    let l : AreLevels (structure_of c.args.map.now) level = levels_of_distances (structure_of c.args.map.now) level c.requires.map.structure c.requires.distances.each in
    let dart : ℕ = c.args.dart in
    let back : level dart ≤ suc (level (twin dart)) =
    subst (λ d. level d ≤ suc (level (twin dart))) (c.requires.map.structure.twin_back dart c.requires.within)
    (l.levels.across (twin dart) (c.requires.map.structure.twin_stays dart c.requires.within)) in
    rw c.twin.ensures (
      λ less. lower_nearer (structure_of c.args.map.now) level l dart dart c.requires.within c.requires.within (face_itself (structure_of c.args.map.now) dart) (omega (arith, less_told (level (twin dart)) (level dart) less, back)),
      λ near. (let lower = nearer_lower (structure_of c.args.map.now) level l dart dart c.requires.within c.requires.within near in told_less (level (twin dart)) (level dart) (omega (arith, lower))),
    )
