use Rattle.std.proofs.Common.{◌≡◌, length, replicate, false, rules, eqb-true, sym}
use Rattle.pm_canon.proofs.MeetingLemmas.{IsMeetingOrder-none, unmarked_at}
use Rattle.pm_canon.proofs.ListLemmas.{sized_none}
use Rattle.pm_canon.proofs.meeting.vertices_met.Goals as goal

pub returns-then-is_empty-clause-met : goal.returns-then-is_empty-clause-met
returns-then-is_empty-clause-met c = rw c.in_ok-darts.ensures.items (IsMeetingOrder-none _ (eqb-true _ _ (sym c.if-is_empty.ensures)))

pub meet_all-requires-clause-unmarked : goal.meet_all-requires-clause-unmarked
meet_all-requires-clause-unmarked c =
    let is : c.deref_mut.result.now ≡ replicate (length c.args.sigma.now) false = search rules in
    unmarked_at _ _ _ is (c.requires.structure.root_stays (search rules))

pub returns-then-is_empty-clause-sized : goal.returns-then-is_empty-clause-sized
returns-then-is_empty-clause-sized c = sized_none _ _ _ c.in_ok-darts.ensures.items c.new-sizes.ensures.items
