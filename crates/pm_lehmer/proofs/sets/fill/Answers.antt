use Rattle.std.proofs.Common.{arith}
use Rattle.pm_lehmer.proofs.Held.{filled_below, IsHeld-none, IsHeld-same, IsHeld-filled, filled_fits}
use Rattle.pm_lehmer.proofs.sets.fill.Goals as goal

pub words-init : goal.words-init
words-init c = IsHeld-none _ _ _ c.requires.no_bits c.requires.none_counted (λ number. omega arith)

pub put-requires-clause-room : goal.put-requires-clause-room
put-requires-clause-room c = λ place positive inside. filled_fits c.words.words c.words.counts c.args.size c.words.word c.min-many.result place c.words.invariant (omega arith) (omega arith) positive (omega arith)

pub words-preserved : goal.words-preserved
words-preserved c = rw c.first_ones.ensures (IsHeld-filled _ _ _ c.args.size c.words.word c.min-many.result c.words.invariant (omega arith) (omega arith) c.put.ensures.counted)

pub returns : goal.returns
returns c = IsHeld-same _ _ (filled_below c.args.size c.words.word) _ c.words.invariant (λ number. omega arith)
