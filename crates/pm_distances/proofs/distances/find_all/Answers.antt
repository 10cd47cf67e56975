use Rattle.std.proofs.Common.{subst, arith}
use Rattle.pm_distances.specs.steps.DistanceSearch.{FindsFace}
use Rattle.pm_distances.proofs.FaceSearch.{IsFinding-begins, IsFinding-all}
use Rattle.pm_distances.proofs.distances.find_all.Goals as goal

pub search-init : goal.search-init
search-init c =
    IsFinding-begins c.args.map.now c.args.found.now c.args.distances.now c.args.darts.now.items _ _ _ c.requires.map.structure c.requires.some c.requires.found_size c.requires.distances_size
    c.requires.none c.requires.empty
    (subst (λ d. FindsFace c.args.map.now.sigma d 0 c.args.found.now c.args.distances.now c.args.darts.now.items c.find_face.new.found c.find_face.new.distances c.find_face.new.darts.items)
    c.root.ensures c.in_ok-find_face.ensures)

pub returns : goal.returns
returns c = IsFinding-all c.args.map.now _ _ _ c.search.place c.requires.map.structure c.requires.map.connected c.search.invariant (omega (arith, c.search.darts.ok, c.len.ensures))
