use Rattle.std.proofs.Common.{◌<◌, ◌∷◌, length, subst, arith}
use Rattle.pm_map.specs.Rotation.{structure_of}
use Rattle.pm_reach.specs.steps.Telling.{TellsAround}
use Rattle.pm_reach.proofs.ToldFaces.{TellsAround-begins, TellsAround-within, TellsAround-more, TellsAround-all}
use Rattle.pm_reach.proofs.layering.tell_face.Goals as goal

pub around-init : goal.around-init
around-init c = (
  tt,
  tt,
  TellsAround-begins (structure_of c.args.map.now) c.args.dart c.into_iter-other-iterator.result c.args.told.now c.args.parents.now
      (rw c.into_iter-other-iterator.ensures.into_iter_gives c.face_walk-other-items.ensures),
)

-- the walk gives a dart of the map
pub bounds-told-other : goal.bounds-told-other
bounds-told-other c =
    let below : c.in-Some.other < length c.args.map.now.sigma =
    TellsAround-within (structure_of c.args.map.now) c.args.dart c.in-Some.other c.next.new.self c.args.told.now c.args.parents.now c.around.told c.around.parents c.requires.map.structure c.requires.within
    (subst (λ rest. TellsAround (structure_of c.args.map.now) c.args.dart rest c.args.told.now c.args.parents.now c.around.told c.around.parents) c.in-Some.ensures.steps c.around.invariant.2) in
    omega (arith, below, c.around.auto.told, c.requires.told_size)

pub bounds-parents-other : goal.bounds-parents-other
bounds-parents-other c =
    let below : c.in-Some.other < length c.args.map.now.sigma =
    TellsAround-within (structure_of c.args.map.now) c.args.dart c.in-Some.other c.next.new.self c.args.told.now c.args.parents.now c.around.told c.around.parents c.requires.map.structure c.requires.within
    (subst (λ rest. TellsAround (structure_of c.args.map.now) c.args.dart rest c.args.told.now c.args.parents.now c.around.told c.around.parents) c.in-Some.ensures.steps c.around.invariant.2) in
    omega (arith, below, c.around.auto.parents, c.requires.parents_size)

pub around-preserved : goal.around-preserved
around-preserved c =
    let here : TellsAround (structure_of c.args.map.now) c.args.dart (c.in-Some.other ∷ c.next.new.self) c.args.told.now c.args.parents.now c.around.told c.around.parents =
    subst (λ rest. TellsAround (structure_of c.args.map.now) c.args.dart rest c.args.told.now c.args.parents.now c.around.told c.around.parents) c.in-Some.ensures.steps c.around.invariant.2 in
    let below : c.in-Some.other < length c.args.map.now.sigma =
    TellsAround-within (structure_of c.args.map.now) c.args.dart c.in-Some.other c.next.new.self c.args.told.now c.args.parents.now c.around.told c.around.parents c.requires.map.structure c.requires.within here in (
      tt,
      tt,
      TellsAround-more (structure_of c.args.map.now) c.args.dart c.in-Some.other c.next.new.self c.args.told.now c.args.parents.now c.around.told c.around.parents
          (omega (arith, below, c.requires.told_size)) (omega (arith, below, c.requires.parents_size)) here,
    )

pub returns : goal.returns
returns c =
    TellsAround-all (structure_of c.args.map.now) c.args.dart c.args.told.now c.args.parents.now c.around.told c.around.parents
    (subst (λ rest. TellsAround (structure_of c.args.map.now) c.args.dart rest c.args.told.now c.args.parents.now c.around.told c.around.parents) c.in-None.ensures.steps.0 c.around.invariant.2)
