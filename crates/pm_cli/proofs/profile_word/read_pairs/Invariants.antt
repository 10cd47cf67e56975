use Rattle.std.proofs.Common.{ℕ, List, map}
use Rattle.std.specs.Borrow.{Bor}
use Rattle.pm_cli.proofs.PairTexts.{SpellPairs}
use Rattle.pm_cli.proofs.profile_word.read_pairs.Given as goal

abbrev pub invariant-loop-text : goal.invariant-loop-text
invariant-loop-text l = SpellPairs (map (λ (t : Bor (List ℕ)). t.now) l.yielded) l.pairs.items
