use Rattle.pm_trees.proofs.Profiles.{profile_at}
use Rattle.pm_trees.proofs.degrees.profile_of.Goals as goal

pub invariant_of-result : goal.invariant_of-result
invariant_of-result c =
    (profile_at _ _ c.in_ok-counts.counts.items _ _ c.letters.ensures.valid c.letters.ensures.letters c.deref.ensures.value c.in_ok-counts.ensures c.in_ok-pairs.ensures).is_profile

pub returns : goal.returns
returns c = profile_at _ _ c.in_ok-counts.counts.items _ _ c.letters.ensures.valid c.letters.ensures.letters c.deref.ensures.value c.in_ok-counts.ensures c.in_ok-pairs.ensures
