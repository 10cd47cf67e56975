use Rattle.std.proofs.Common.{List, ℕ, ◌++◌, ap, ◌∙◌, subst}
use Rattle.pm_class.specs.Sampling.{IsSampledUnnamed}
use Rattle.pm_cli.proofs.UnnamedTexts.{unnamed_text}
use Rattle.pm_cli.proofs.WholeDrawings.{record_made}
use Rattle.pm_cli.proofs.draw.draw_record.Goals as goal

pub returns-clause-record : goal.returns-clause-record
returns-clause-record g c =
    let samples = g.C.MapClass.samples c.args.size.now in
    let sampled = subst (λ (list : List ℕ). IsSampledUnnamed (g.C.MapClass.choice_limits c.args.size.now) (g.C.MapClass.residue_limits c.args.size.now) (g.C.MapClass.has c.args.size.now) (samples list) list c.in_ok-sample.sample)
    c.values.ensures c.in_ok-sample.ensures in
    record_made samples _ c.in_ok-choices.choices c.new-text.result.items c.put_list.new.text.items
    c.in_ok-rest.rest.items c.extend_from_slice.new.self.items c.in_ok-choices.ensures.drawn c.in_ok-put_list.ensures.read_again
    (unnamed_text (g.C.MapClass.choice_limits c.args.size.now) (g.C.MapClass.residue_limits c.args.size.now) (g.C.MapClass.has c.args.size.now) samples c.in_ok-choices.choices c.in_ok-sample.sample c.in_ok-rest.rest.items sampled c.in_ok-rest.ensures)
    c.new-text.ensures.items c.in_ok-put_list.ensures.text
    (c.in_ok-extend_from_slice.ensures.items ∙ ap (λ (t : List ℕ). c.put_list.new.text.items ++ t) c.deref.ensures.value)
