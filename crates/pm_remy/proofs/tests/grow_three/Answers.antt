use Rattle.std.proofs.Common.{◌+◌, ◌*◌, ◌<◌, ℕ, zero, suc, [], ◌∷◌, slice_index, arith}
use Rattle.pm_remy.proofs.tests.grow_three.Goals as goal

three-valid : (a b c k : ℕ) → a < 2 → b < 6 → c < 10 → k < 3 → slice_index (a ∷ (b ∷ (c ∷ []))) k < 2 * (2 * k + 1)
three-valid a b c zero p q r h = omega arith
three-valid a b c (suc zero) p q r h = omega arith
three-valid a b c (suc (suc zero)) p q r h = omega arith
three-valid a b c (suc (suc (suc k))) p q r h = absurd (omega arith)

pub grow-requires-clause-valid : goal.grow-requires-clause-valid
grow-requires-clause-valid c = λ k q. three-valid c.args.a c.args.b c.args.c k c.requires.a_in c.requires.b_in c.requires.c_in q
