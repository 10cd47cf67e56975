use Rattle.std.proofs.lemmas.List.{length_push}
use Rattle.std.proofs.Common.{[], ◌∷◌, ◌++◌, ◌<◌, ◌≤◌, length, true, arith, length-set}
use Rattle.pm_map.specs.Rotation.{structure_of}
use Rattle.pm_canon.proofs.KeptLemmas.{MarksDarts-unmarked, HasEachOnce-length}
use Rattle.pm_canon.proofs.WalkLemmas.{IsWalking-begins, IsWalking-step, IsWalking-kept, IsWalking-below, IsWalking-once}
use Rattle.pm_canon.proofs.meeting.append_vertex.Goals as goal

pub walk-init : goal.walk-init
walk-init c =
    rw c.in_ok-push.ensures.items
    (IsWalking-begins _ _ _ _ c.requires.kept c.requires.within (omega arith) (MarksDarts-unmarked _ _ _ c.requires.kept.marking c.requires.unmarked))

pub walk-preserved : goal.walk-preserved
walk-preserved c =
    let s = structure_of (record { sigma = c.args.sigma.now; root = c.args.root }) in
    let turns = c.requires.map.structure.rotation in
    let below : c.walk.dart < length c.args.sigma.now = IsWalking-below s _ _ _ _ _ turns c.walk.invariant in
    rw c.in_ok-push-2.ensures.items
    (IsWalking-step s _ _ _ _ _ turns c.walk.invariant below (omega (arith, length-set c.args.marks.now c.args.start true)) c.walk-test.true)

pub walk-smaller : goal.walk-smaller
walk-smaller c =
    let s = structure_of (record { sigma = c.args.sigma.now; root = c.args.root }) in
    let turns = c.requires.map.structure.rotation in
    let below : c.walk.dart < length c.args.sigma.now = IsWalking-below s _ _ _ _ _ turns c.walk.invariant in
    let once = IsWalking-once s _ _ _ _ _ (IsWalking-step s _ _ _ _ _ turns c.walk.invariant below (omega (arith, length-set c.args.marks.now c.args.start true)) c.walk-test.true) in
    let few : length (c.walk.darts.items ++ c.walk.dart ∷ []) ≤ length c.args.sigma.now = HasEachOnce-length _ _ once in
    omega (arith, length_push c.walk.darts.items c.walk.dart, c.in_ok-push-2.ensures.len, c.walk.darts.ok)

pub returns-clause-kept : goal.returns-clause-kept
returns-clause-kept c = IsWalking-kept _ _ _ _ _ (rw (c.walk-test.false) at c.walk.invariant)
