use Rattle.pm_tri.proofs.Replants.{each_stem, replanted_alike, replanted_unique, replanting_undone, stems_turned}
use Rattle.pm_tri.proofs.StemCounts.{stems_count}
use Rattle.pm_tri.proofs.laws.stem_trees_are_replanted.Goals as goal

pub returns : goal.returns
returns c = record {
  count = stems_count;
  each = each_stem;
  unique = replanted_unique;
  alike = replanted_alike;
  stems = stems_turned;
  undone = replanting_undone;
}
