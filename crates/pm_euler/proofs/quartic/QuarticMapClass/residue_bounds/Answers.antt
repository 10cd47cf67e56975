use Rattle.std.proofs.Common.{ℕ, ◌+◌, ◌∷◌, subst, sym, ap, ◌∙◌}
use Rattle.pm_lists.specs.Valid.{AreBounds}
use Rattle.pm_objects.specs.Codes.{code_bounds}
use Rattle.pm_euler.proofs.BoundLemmas.{quartic_residues_are}
use Rattle.pm_euler.proofs.quartic.QuarticMapClass.residue_bounds.Goals as goal

pub of-requires : goal.of-requires
of-requires c = subst AreBounds (sym (c.in_ok-limits.ensures ∙ ap (λ (k : ℕ). (k + 2) ∷ code_bounds (c.args.size.now + 1)) c.from.ensures)) (quartic_residues_are c.args.size.now)
