use Rattle.std.proofs.Common.{subst, sym}
use Rattle.pm_lists.specs.Valid.{AreBounds}
use Rattle.pm_tri.proofs.TriBounds.{residues_pushed, tri_residues_are}
use Rattle.pm_tri.proofs.bounds.tri_residue_bounds.Goals as goal

pub of-requires : goal.of-requires
of-requires c =
    subst AreBounds
    (sym (residues_pushed c.args.n c.from.result c.from-2.result c.in_ok-limits.limits.items c.push.new.self.items c.push_code_bounds.new.bounds.items c.push_code_bounds-2.new.bounds.items c.push-2.new.self.items c.in_ok-limits.ensures.items
    c.from.ensures c.in_ok-push.ensures.items c.in_ok-push_code_bounds.ensures c.in_ok-push_code_bounds-2.ensures c.from-2.ensures c.in_ok-push-2.ensures.items))
    (tri_residues_are c.args.n c.requires)
