use Rattle.pm_text.proofs.BrokenLemmas.{valid_has_no_broken_line}
use Rattle.pm_text.proofs.form.valid_has_no_broken_line.Goals as goal

pub returns : goal.returns
returns g c = valid_has_no_broken_line g.F.Form.valid
