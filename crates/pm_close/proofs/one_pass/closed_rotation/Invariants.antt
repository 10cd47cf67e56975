use Rattle.pm_close.proofs.OnePass.{IsPassing}
use Rattle.pm_close.proofs.one_pass.closed_rotation.Given as goal

abbrev pub invariant-letters : goal.invariant-letters
invariant-letters l = IsPassing l.letters l.letter-index l.sigma.items l.children.items l.waiting.items l.next l.behind
