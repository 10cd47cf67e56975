use Rattle.std.proofs.Common.{◌-◌, length}
use Rattle.pm_text.specs.Numeral.{ReadsDigits}
use Rattle.pm_text.proofs.leading.more_digits.Given as goal

abbrev pub invariant-digits : goal.invariant-digits
invariant-digits l = ReadsDigits l.bytes l.length l.value

abbrev pub decreases-digits : goal.decreases-digits
decreases-digits l = length l.bytes - l.length
