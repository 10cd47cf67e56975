use Rattle.std.proofs.Common.{◌≡◌, List, ℕ, subst, map}
use Rattle.std.specs.Prelude.{string_bytes}
use Rattle.pm_cli.specs.declared.command.Command.{Command}
use Rattle.pm_cli.specs.declared.command.Command.TheVariants.{Reads}
use Rattle.pm_cli.specs.declared.command.Reader.{Reader}
use Rattle.pm_cli.specs.Commands.{Spells}
use Rattle.pm_cli.proofs.EndingLemmas.{ends_making, ends_unread, ends_reading, ends_answering, ends_writing}
use Rattle.pm_cli.proofs.NoUsage.{no_usage}
use Rattle.pm_cli.proofs.engine.perform.Goals as goal

spells_reader : (words : List (List ℕ)) (command : Command) (reader : Reader) → command ≡ Reads reader → Spells words command → Spells words (Reads reader)
spells_reader words command reader is spells = subst (Spells words) is spells

pub returns-in-Ok-Err-clause-ends : goal.returns-in-Ok-Err-clause-ends
returns-in-Ok-Err-clause-ends g c = ends_unread _ _ _ _ (rw c.in-Ok-Err.field-0-is at c.in-Ok-Err.ensures)

pub returns-in-Err-read_input-clause-ends : goal.returns-in-Err-read_input-clause-ends
returns-in-Err-read_input-clause-ends g c =
    ends_reading _ c.in-Reads.reader (g.S.Source.left c.args.input.now) (g.S.Source.left c.read_input.new.input) (g.O.Sink.holds c.args.out.now)
    (g.S.Source.faults c.args.input.now) (g.S.Source.faults c.read_input.new.input) c.in-Err-read_input.stop (spells_reader (map string_bytes c.args.words.now) c.in-Ok-Ok.command c.in-Reads.reader c.in-Reads.is (rw c.in-Ok-Ok.field-0-is at c.in-Ok-Ok.ensures)) c.in-Err-read_input.ensures.read

pub returns-in-Err-answer-clause-ends : goal.returns-in-Err-answer-clause-ends
returns-in-Err-answer-clause-ends g c =
    ends_answering _ c.in-Reads.reader (g.S.Source.left c.args.input.now) (g.S.Source.left c.read_input.new.input) (g.O.Sink.holds c.args.out.now)
    (g.S.Source.faults c.args.input.now) (g.S.Source.faults c.read_input.new.input) c.in-Ok.bytes.items c.deref.result.now c.in-Err-answer.stop
    (spells_reader (map string_bytes c.args.words.now) c.in-Ok-Ok.command c.in-Reads.reader c.in-Reads.is (rw c.in-Ok-Ok.field-0-is at c.in-Ok-Ok.ensures)) c.in-Ok.ensures.read c.deref.ensures.value c.in-Err-answer.ensures

pub returns-in-Err-answer-clause-untouched : goal.returns-in-Err-answer-clause-untouched
returns-in-Err-answer-clause-untouched g c e = absurd (no_usage c.in-Reads.reader c.deref.result.now c.in-Err-answer.stop c.in-Err-answer.ensures e)

pub returns-in-Reads-clause-ends : goal.returns-in-Reads-clause-ends
returns-in-Reads-clause-ends g c =
    ends_writing _ c.in-Reads.reader (g.S.Source.left c.args.input.now) (g.S.Source.left c.read_input.new.input) (g.O.Sink.holds c.args.out.now)
    (g.O.Sink.holds c.write_text.new.out) (g.S.Source.faults c.args.input.now) (g.S.Source.faults c.read_input.new.input)
    (g.O.Sink.faults c.args.out.now) (g.O.Sink.faults c.write_text.new.out) c.in-Ok.bytes.items c.deref.result.now c.in-Ok-answer.text
    c.deref-in-Reads.result.now c.write_text.result (spells_reader (map string_bytes c.args.words.now) c.in-Ok-Ok.command c.in-Reads.reader c.in-Reads.is (rw c.in-Ok-Ok.field-0-is at c.in-Ok-Ok.ensures)) c.in-Ok.ensures.read c.deref.ensures.value c.in-Ok-answer.ensures
    c.deref-in-Reads.ensures.value c.write_text.ensures.written

pub returns-clause-ends : goal.returns-clause-ends
returns-clause-ends g c =
    ends_making _ c.in-Makes.task c.in-Makes.size (g.S.Source.left c.args.input.now) (g.O.Sink.holds c.args.out.now) (g.O.Sink.holds c.make.new.out)
    (g.O.Sink.faults c.args.out.now) (g.O.Sink.faults c.make.new.out) c.make.result
    (subst (Spells (map string_bytes c.args.words.now)) c.in-Makes.is (rw c.in-Ok-Ok.field-0-is at c.in-Ok-Ok.ensures)) c.make.ensures
