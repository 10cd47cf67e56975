use Rattle.pm_text.proofs.ReadingLemmas.{reading_skipped}
use Rattle.pm_text.proofs.lines.Lines.skip.Goals as goal

pub returns : goal.returns
returns c = rw (← c.self.view_is) (reading_skipped c.self.inside.bytes.now c.self.inside.given c.args.count)
