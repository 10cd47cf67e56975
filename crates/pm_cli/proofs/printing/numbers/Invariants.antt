use Rattle.std.proofs.Common.{◌≡◌, take}
use Rattle.pm_cli.proofs.printing.numbers.Given as goal

abbrev pub invariant-values : goal.invariant-values
invariant-values l = l.wide.items ≡ take l.value-index l.values
