use Rattle.std.proofs.Common.{Err, sym, subst}
use Rattle.pm_limits.specs.declared.TheConstants.{MAX_DEGREE}
use Rattle.pm_map.specs.Rotation.{structure_of}
use Rattle.pm_map.specs.DegreeTable.{AreVertexCounts}
use Rattle.pm_trees.specs.Profile.{IsTableAnswer}
use Rattle.pm_trees.specs.declared.profile.ProfileRefusal.{ProfileRefusal}
use Rattle.pm_euler.proofs.EulerianMaps.{profile_of_table, no_pair_refusal, no_size_refusal}
use Rattle.pm_euler.proofs.map_profile.profile_of_even.Goals as goal

pub returns-in-Ok : goal.returns-in-Ok
returns-in-Ok c =
    let table = subst (AreVertexCounts (structure_of c.args.map.now) MAX_DEGREE) (sym c.deref.ensures.value) c.in_ok-table.ensures in
    profile_of_table c.args.map.now c.deref.result.now c.in-Ok.profile c.edges-edges.ensures.valid c.requires.some c.requires.degrees table c.in-Ok.ensures.0

pub unreachable-requires : goal.unreachable-requires
unreachable-requires c =
    let table = subst (AreVertexCounts (structure_of c.args.map.now) MAX_DEGREE) (sym c.deref.ensures.value) c.in_ok-table.ensures in
    no_pair_refusal c.args.map.now c.deref.result.now c.in-Err-Pair.field-0-0 c.edges-edges.ensures.valid c.requires.some c.requires.degrees table
    (subst (λ (refusal : ProfileRefusal). IsTableAnswer c.deref.result.now (Err refusal)) c.in-Err-Pair.field-0-is c.in-Err-Pair.ensures)

pub unreachable-requires-in-Err-TooMany : goal.unreachable-requires-in-Err-TooMany
unreachable-requires-in-Err-TooMany c =
    let table = subst (AreVertexCounts (structure_of c.args.map.now) MAX_DEGREE) (sym c.deref.ensures.value) c.in_ok-table.ensures in
    no_size_refusal c.args.map.now c.deref.result.now c.in-Err-TooMany.field-0-0 c.edges-edges.ensures.valid c.requires.some c.requires.degrees table
    (subst (λ (refusal : ProfileRefusal). IsTableAnswer c.deref.result.now (Err refusal)) c.in-Err-TooMany.field-0-is c.in-Err-TooMany.ensures)
