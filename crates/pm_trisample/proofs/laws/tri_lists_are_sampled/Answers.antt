use Rattle.pm_trisample.proofs.SampleLaws.{tri_lists_once, tri_lists_sampled}
use Rattle.pm_trisample.proofs.laws.tri_lists_are_sampled.Goals as goal

pub returns : goal.returns
returns c = record { each = tri_lists_sampled; one = tri_lists_once }
