use Rattle.std.proofs.Common.{subst, sym}
use Rattle.pm_lists.specs.Valid.{AreBounds}
use Rattle.pm_euler.proofs.BoundLemmas.{quartic_choices_are}
use Rattle.pm_euler.proofs.quartic.QuarticMapClass.choice_bounds.Goals as goal

pub of-requires : goal.of-requires
of-requires c = subst AreBounds (sym c.in_ok-limits.ensures) (quartic_choices_are c.args.size.now)
