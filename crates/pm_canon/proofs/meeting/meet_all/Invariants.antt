use Rattle.std.proofs.Common.{◌-◌, length}
use Rattle.pm_map.specs.Rotation.{structure_of}
use Rattle.pm_canon.specs.steps.Kept.{IsMeeting}
use Rattle.pm_canon.specs.steps.Sizing.{AreSized}
use Rattle.pm_canon.proofs.meeting.meet_all.Given as goal

abbrev pub invariant-meet : goal.invariant-meet
invariant-meet l =
    IsMeeting (structure_of (record { sigma = l.sigma; root = l.root })) l.marks l.darts.items l.place × AreSized (structure_of (record { sigma = l.sigma; root = l.root })) l.darts.items l.sizes.items

abbrev pub decreases-meet : goal.decreases-meet
decreases-meet l = length l.sigma - l.place
