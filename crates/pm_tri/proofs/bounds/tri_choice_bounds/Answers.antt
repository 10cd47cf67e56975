use Rattle.std.proofs.Common.{subst, sym}
use Rattle.pm_lists.specs.Valid.{AreBounds}
use Rattle.pm_tri.proofs.TriBounds.{choices_pushed, tri_choices_are}
use Rattle.pm_tri.proofs.bounds.tri_choice_bounds.Goals as goal

pub of-requires : goal.of-requires
of-requires c =
    subst AreBounds
    (sym (choices_pushed c.args.n c.in_ok-limits.limits.items c.push_code_bounds.new.bounds.items c.push.new.self.items c.push-2.new.self.items c.in_ok-limits.ensures.items c.in_ok-push_code_bounds.ensures c.in_ok-push.ensures.items c.in_ok-push-2.ensures.items))
    (tri_choices_are c.args.n)
