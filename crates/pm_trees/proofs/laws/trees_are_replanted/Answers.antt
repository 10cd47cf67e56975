use Rattle.pm_trees.proofs.Replants.{each_leaf, replanted_unique, replanted_alike, leaves_turned, replanting_undone}
use Rattle.pm_trees.proofs.laws.trees_are_replanted.Goals as goal

pub returns : goal.returns
returns c = record {
  each = each_leaf;
  unique = replanted_unique;
  alike = replanted_alike;
  leaves = leaves_turned;
  undone = replanting_undone;
}
