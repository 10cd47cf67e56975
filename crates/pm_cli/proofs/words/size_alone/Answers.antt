use Rattle.std.proofs.Common.{map, arith}
use Rattle.std.specs.Prelude.{string_bytes}
use Rattle.pm_cli.proofs.StoppingWords.{some_words, words_after_size}
use Rattle.pm_cli.proofs.words.size_alone.Goals as goal

pub returns-else-is_empty : goal.returns-else-is_empty
returns-else-is_empty c =
    let read = rw c.in-Ok.is at c.in_ok-size.ensures in
    (omega arith, words_after_size _ (map string_bytes c.in-Ok.field-0.rest.now) c.in-Ok.field-0.size read.1 read.0 (some_words string_bytes c.in-Ok.field-0.rest.now c.if-is_empty.ensures))
