use Rattle.std.proofs.Common.{map, arith}
use Rattle.std.specs.Prelude.{string_bytes}
use Rattle.pm_cli.specs.Commands.{number_words}
use Rattle.pm_cli.specs.steps.Words.{AreNumberWords}
use Rattle.pm_cli.proofs.StoppingWords.{some_numbers, no_size_before, none_after_size}
use Rattle.pm_cli.proofs.command.Command.of_draw.Goals as goal

pub returns-in-Err : goal.returns-in-Err
returns-in-Err c =
    let stops = rw c.in-Err.is at c.in_ok-size.ensures in
    (omega (arith, stops.0), no_size_before AreNumberWords _ (number_words 0 1) c.in-Err.matched some_numbers stops.0 stops.1)

pub returns-in-Err-read_numbers : goal.returns-in-Err-read_numbers
returns-in-Err-read_numbers c =
    let read = rw c.in-Ok.is at c.in_ok-size.ensures in
    let stops = c.in-Err-read_numbers.ensures in
    (omega (arith, stops.0), none_after_size AreNumberWords _ (map string_bytes c.in-Ok.field-0.rest.now) c.in-Ok.field-0.size c.in-Err-read_numbers.matched read.1 read.0 stops.1)
