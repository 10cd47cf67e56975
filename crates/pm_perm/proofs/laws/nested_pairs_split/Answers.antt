use Rattle.pm_perm.proofs.Nested.{nested-iff_cycles}
use Rattle.pm_perm.proofs.laws.nested_pairs_split.Goals as goal

pub returns : goal.returns
returns c = nested-iff_cycles
