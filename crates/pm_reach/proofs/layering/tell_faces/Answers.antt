use Rattle.std.proofs.Common.{◌<◌, ℕ, inl, inr, length, slice_index, sym, ◌∙◌, subst, arith, rules}
use Rattle.std.proofs.lemmas.Bool.{false≢true}
use Rattle.pm_map.specs.Structure.{Structure}
use Rattle.pm_map.specs.Rotation.{structure_of}
use Rattle.pm_reach.specs.steps.Telling.{IsTelling}
use Rattle.pm_reach.proofs.NearerFaces.{AreLevels, levels_of_distances}
use Rattle.pm_reach.proofs.ToldFaces.{IsTelling-begins, IsTelling-passes, IsTelling-tells, IsTelling-all}
use Rattle.pm_reach.proofs.layering.tell_faces.Goals as goal
use Rattle.pm_reach.proofs.layering.tell_faces.Goals.{then-not-told-dart+then-leads_nearer, else-not-told-dart, else-not-told-dart-via-then-not-told-dart+else-leads_nearer, else-not-told-dart-via-else-not-told-dart}

pub darts-init : goal.darts-init
darts-init c = IsTelling-begins (structure_of c.args.map.now) c.args.told.now c.args.parents.now c.requires.told c.requires.parents

pub darts-preserved : goal.darts-preserved
darts-preserved c =
    let s : Structure = structure_of c.args.map.now in
    let level : ℕ → ℕ = slice_index c.args.distances.now in
    let l : AreLevels s level = levels_of_distances s level c.requires.map.structure c.requires.distances.each in
    let within : c.darts.dart < length c.args.map.now.sigma = omega (arith, c.darts-test.true, c.darts.invariant.told_size) in
    elim c.if-not-told-dart.branch [
      | then-not-told-dart+then-leads_nearer w ↦
          rw w.told-is
          (rw w.parents-is
          (IsTelling-tells s level c.darts.told c.darts.parents w.tell_face.new.told w.tell_face.new.parents c.darts.dart l within (search rules)
          (w.leads_nearer.ensures.0 w.if-leads_nearer.true) w.tell_face.ensures c.darts.invariant))
      | else-not-told-dart w ↦ rw w.told-is (rw w.parents-is (elim w.else-not-told-dart.branch [
        | else-not-told-dart-via-then-not-told-dart+else-leads_nearer w' ↦ IsTelling-passes s level c.darts.told c.darts.parents c.darts.dart l within (inr (λ near. false≢true (sym w'.if-leads_nearer.false ∙ w'.leads_nearer.ensures.1 near))) c.darts.invariant
        | else-not-told-dart-via-else-not-told-dart w' ↦ IsTelling-passes s level c.darts.told c.darts.parents c.darts.dart l within (inl (search rules)) c.darts.invariant
      ]))
    ]

pub returns : goal.returns
returns c =
    let s : Structure = structure_of c.args.map.now in
    let level : ℕ → ℕ = slice_index c.args.distances.now in
    let l : AreLevels s level = levels_of_distances s level c.requires.map.structure c.requires.distances.each in
    IsTelling-all s level c.darts.told c.darts.parents l
    (subst (λ bound. IsTelling s c.darts.told c.darts.parents bound) (omega (arith, c.darts.auto.dart-end, c.darts-test.false, c.darts.invariant.told_size)) c.darts.invariant)
