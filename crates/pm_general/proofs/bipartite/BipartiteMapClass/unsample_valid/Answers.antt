use Rattle.std.proofs.lemmas.Result.{IfOk-weaker}
use Rattle.pm_class.proofs.ExchangedLemmas.{unsampled_by_choices}
use Rattle.pm_euler.specs.Bounds.{eulerian_choices, eulerian_residues}
use Rattle.pm_general.specs.Bipartite.{IsBipartiteAnswer, SamplesBipartite}
use Rattle.pm_general.proofs.bipartite.BipartiteMapClass.unsample_valid.Goals as goal

pub returns : goal.returns
returns c =
    IfOk-weaker c.unsample_through.result _ _ (unsampled_by_choices eulerian_choices eulerian_residues SamplesBipartite IsBipartiteAnswer c.args.size.now c.args.map.now c.args.residue.now c.requires.size c.requires.valid) c.unsample_through.ensures
