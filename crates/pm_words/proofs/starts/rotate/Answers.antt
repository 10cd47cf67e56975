use Rattle.std.proofs.Common.{◌≡◌, arith}
use Rattle.std.proofs.lemmas.Grind.{common_steps}
use Rattle.pm_words.specs.Word.{turned}
use Rattle.pm_words.proofs.Records.{get_or-turned}
use Rattle.pm_words.proofs.starts.rotate.Goals as goal

pub returns-clause-at : goal.returns-clause-at
returns-clause-at c = λ place inside.
    let whole : c.extend_from_slice.new.self.items ≡ turned c.args.start c.args.entries.now = grind (arith, common_steps, c.in_ok-extend_from_slice.ensures.items, c.in_ok-rotated.ensures.items) in
    rw whole (get_or-turned c.args.start place c.args.entries.now c.requires inside)
