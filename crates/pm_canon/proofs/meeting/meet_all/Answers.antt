use Rattle.std.proofs.Common.{◌≤◌, length, arith}
use Rattle.pm_map.specs.Rotation.{structure_of}
use Rattle.pm_canon.proofs.KeptLemmas.{HasEachOnce-length}
use Rattle.pm_canon.proofs.MeetingLemmas.{IsMeeting-root, IsMeeting-all}
use Rattle.pm_canon.proofs.ListLemmas.{sized_none}
use Rattle.pm_canon.proofs.meeting.meet_all.Goals as goal

pub meet-init : goal.meet-init
meet-init c = (IsMeeting-root (structure_of (record { sigma = c.args.sigma.now; root = c.args.root })) _ c.args.darts.now.items _ c.requires.empty c.in_ok-append_sized.ensures.appended c.in_ok-append_sized.ensures.kept, c.in_ok-append_sized.ensures.sized)

pub meet-smaller : goal.meet-smaller
meet-smaller c =
    let few : length c.meet.darts.items ≤ length c.args.sigma.now = HasEachOnce-length _ _ c.meet.invariant.0.kept.once in
    omega (arith, c.meet.darts.ok, c.len.ensures)

pub returns-clause-met : goal.returns-clause-met
returns-clause-met c = IsMeeting-all _ _ _ c.meet.place c.requires.map.connected c.requires.some c.meet.invariant.0 (omega (arith, c.meet.darts.ok, c.len.ensures))

pub append_sized-requires-clause-sized : goal.append_sized-requires-clause-sized
append_sized-requires-clause-sized c = sized_none _ _ _ c.requires.empty c.requires.no_size
