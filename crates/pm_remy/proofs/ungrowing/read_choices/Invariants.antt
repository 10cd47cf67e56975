use Rattle.pm_remy.specs.Growth.{IsChoices}
use Rattle.pm_remy.proofs.Stacked.{IsGathered}
use Rattle.pm_remy.proofs.ungrowing.read_choices.Given as goal

abbrev pub invariant-nodes : goal.invariant-nodes
invariant-nodes l =
    record {
      gathered : IsGathered l.choices l.nodes l.labels l.nodes_left l.labels_left l.subtrees.items;
      valid : IsChoices l.choices;
    }

abbrev pub decreases-nodes : goal.decreases-nodes
decreases-nodes l = l.nodes_left
