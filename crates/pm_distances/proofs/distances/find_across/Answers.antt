use Rattle.std.proofs.Common.{◌≡◌, ℕ, suc, ◌+◌, ◌*◌, ◌<◌, ◌∙◌, ap, sym, subst, length, get_or, vec_len, arith, false}
use Rattle.std.proofs.lemmas.List.{get_or_read_under}
use Rattle.std.proofs.lemmas.Result.{on_ok_weaker}
use Rattle.std.proofs.lemmas.List.Elements.{Contains-get_or}
use Rattle.pm_map.specs.Rotation.{twin}
use Rattle.pm_map.specs.steps.Marks.{IsMarked}
use Rattle.pm_distances.specs.steps.DistanceSearch.{FindsFace}
use Rattle.pm_distances.proofs.FaceSearch.{IsFinding-found, IsFinding-more, IsFinding-few}
use Rattle.pm_distances.proofs.distances.find_across.Goals as goal

pub twin-other-requires : goal.twin-other-requires
twin-other-requires c =
    let darts = c.args.darts.now.items in
    let is_dart : c.index-dart.result.now ≡ get_or darts c.args.place 0 = get_or_read_under darts c.args.place (vec_len c.args.darts.now) c.index-dart.result.now 0 c.index-dart.ensures c.requires.within (omega arith) in
    subst (λ d. d < length c.args.map.now.sigma) (sym is_dart) (c.requires.finding.listed.below (get_or darts c.args.place 0) (Contains-get_or darts c.args.place 0 (omega arith)))

pub returns-then-found-other-clause-finding : goal.returns-then-found-other-clause-finding
returns-then-found-other-clause-finding c =
    let darts = c.args.darts.now.items in
    let is_dart : c.index-dart.result.now ≡ get_or darts c.args.place 0 = get_or_read_under darts c.args.place (vec_len c.args.darts.now) c.index-dart.result.now 0 c.index-dart.ensures c.requires.within (omega arith) in
    IsFinding-found c.args.map.now c.args.found.now c.args.distances.now darts c.args.place c.requires.finding (omega arith)
    (subst (λ d. IsMarked c.args.found.now d) (c.twin-other.ensures ∙ ap twin is_dart) c.if-found-other.true)

pub overflow_add-distances : goal.overflow_add-distances
overflow_add-distances c =
    let darts = c.args.darts.now.items in
    let is_dart : c.index-dart.result.now ≡ get_or darts c.args.place 0 = get_or_read_under darts c.args.place (vec_len c.args.darts.now) c.index-dart.result.now 0 c.index-dart.ensures c.requires.within (omega arith) in
    let few : get_or c.args.distances.now (get_or darts c.args.place 0) 0 < 2 * length c.args.map.now.sigma = IsFinding-few c.args.map.now c.args.found.now c.args.distances.now darts c.args.place c.requires.finding (omega arith) in
    let small : get_or c.args.distances.now c.index-dart.result.now 0 < 2 * length c.args.map.now.sigma = subst (λ d. get_or c.args.distances.now d 0 < 2 * length c.args.map.now.sigma) (sym is_dart) few in
    omega (arith, c.requires.map.few)

pub find_face-requires-clause-within : goal.find_face-requires-clause-within
find_face-requires-clause-within c =
    let darts = c.args.darts.now.items in
    let is_dart : c.index-dart.result.now ≡ get_or darts c.args.place 0 = get_or_read_under darts c.args.place (vec_len c.args.darts.now) c.index-dart.result.now 0 c.index-dart.ensures c.requires.within (omega arith) in
    let below : get_or darts c.args.place 0 < length c.args.map.now.sigma = c.requires.finding.listed.below (get_or darts c.args.place 0) (Contains-get_or darts c.args.place 0 (omega arith)) in
    let other : twin (get_or darts c.args.place 0) < length c.args.map.now.sigma = c.requires.map.structure.twin_stays (get_or darts c.args.place 0) below in
    subst (λ d. d < length c.args.map.now.sigma) (sym (c.twin-other.ensures ∙ ap twin is_dart)) other

pub returns-clause-finding : goal.returns-clause-finding
returns-clause-finding c =
    let darts = c.args.darts.now.items in
    let is_dart : c.index-dart.result.now ≡ get_or darts c.args.place 0 = get_or_read_under darts c.args.place (vec_len c.args.darts.now) c.index-dart.result.now 0 c.index-dart.ensures c.requires.within (omega arith) in
    let is_other : c.twin-other.result ≡ twin (get_or darts c.args.place 0) = c.twin-other.ensures ∙ ap twin is_dart in
    let distance : ℕ = get_or c.args.distances.now c.index-dart.result.now 0 + 1 in
    let further : distance ≡ suc (get_or c.args.distances.now (get_or darts c.args.place 0) 0) = omega (arith, ap (λ d. get_or c.args.distances.now d 0) is_dart) in
    on_ok_weaker _ (λ found.
    IsFinding-more c.args.map.now distance c.args.found.now c.args.distances.now darts _ _ _ c.args.place c.requires.map.structure c.requires.finding (omega arith)
    (subst (λ d. get_or c.args.found.now d false ≡ false) is_other c.if-found-other.false) further
    (subst (λ d. FindsFace c.args.map.now.sigma d distance c.args.found.now c.args.distances.now darts c.find_face.new.found c.find_face.new.distances c.find_face.new.darts.items) is_other found))
    c.find_face.ensures
