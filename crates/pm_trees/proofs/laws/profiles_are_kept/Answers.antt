use Rattle.pm_trees.proofs.Profiles.{profile_kept, profile_unique}
use Rattle.pm_trees.proofs.laws.profiles_are_kept.Goals as goal

pub returns : goal.returns
returns c = record { unique = profile_unique; kept = profile_kept }
