use Rattle.pm_canon.proofs.ListLemmas.{list_answer}
use Rattle.pm_canon.proofs.listing.vertex_list.Goals as goal

pub returns : goal.returns
returns c = list_answer c.vertices_met.result c.args.map.now c.sigma.result.now c.root.result c.sigma.ensures.sigma c.root.ensures c.vertices_met.ensures.met c.vertices_met.ensures.sized
