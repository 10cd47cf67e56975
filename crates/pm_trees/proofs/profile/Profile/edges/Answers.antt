use Rattle.std.proofs.Common.{◌≡◌, ◌∙◌, ap, arith}
use Rattle.pm_trees.specs.Pairs.{degree_sum}
use Rattle.pm_trees.proofs.PairRules.{degree_sum-even}
use Rattle.pm_trees.proofs.profile.Profile.edges.Goals as goal

pub returns-clause-exact : goal.returns-clause-exact
returns-clause-exact c =
    let same : c.degree_sum.result ≡ degree_sum c.self.inside.pairs.items = c.degree_sum.ensures ∙ ap degree_sum c.deref.ensures.value in
    let view : degree_sum c.self.inside.pairs.items ≡ degree_sum c.args.self.now = ap degree_sum c.self.view_is in
    let even = degree_sum-even c.self.inside.pairs.items (λ k l. (c.self.invariant.are_pairs.right k l).even) in
    omega (arith, same, view, even)
