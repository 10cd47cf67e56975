use Rattle.std.proofs.Common.{append_assoc}
use Rattle.pm_cli.proofs.refusal.list_line.Goals as goal

pub returns-in-Length : goal.returns-in-Length
returns-in-Length c = rw c.in-Length.is (simp append_assoc c.format.ensures.ok)

pub returns-in-Entry : goal.returns-in-Entry
returns-in-Entry c = rw c.in-Entry.is (simp append_assoc c.format-in-Entry.ensures.ok)
