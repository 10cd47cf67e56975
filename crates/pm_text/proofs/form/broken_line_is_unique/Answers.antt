use Rattle.pm_text.proofs.BrokenLemmas.{broken_line_is_unique}
use Rattle.pm_text.proofs.form.broken_line_is_unique.Goals as goal

pub returns : goal.returns
returns g c = broken_line_is_unique g.F.Form.valid
