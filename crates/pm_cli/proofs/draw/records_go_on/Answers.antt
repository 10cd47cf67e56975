use Rattle.std.proofs.Common.{ℕ, ◌^◌, ◌<◌, subst}
use Rattle.std.proofs.lemmas.List.Elements.{All-from_get_or}
use Rattle.pm_lists.specs.ListLine.{AreWords}
use Rattle.pm_lists.specs.Valid.{AreBounds}
use Rattle.pm_cli.proofs.WholeDrawings.{drawn_records_go_on}
use Rattle.pm_cli.proofs.draw.records_go_on.Goals as goal

pub returns : goal.returns
returns g c =
    let words : AreWords c.args.limits.now = record { each = All-from_get_or (λ (value : ℕ). value < 2 ^ 64) c.args.limits.now 0 (λ place l. (c.type_inv.limits place).fits) } in
    drawn_records_go_on (g.C.MapClass.choice_limits c.args.size.now) (g.C.MapClass.residue_limits c.args.size.now) (g.C.MapClass.has c.args.size.now)
    (g.C.MapClass.samples c.args.size.now) (c.each_list_is_sampled.ensures c.args.size.now c.requires.size)
    (subst AreBounds c.requires.limits c.requires.bounds) (subst AreWords c.requires.limits words)
