use Rattle.pm_tri.specs.StemTree.{contour}
use Rattle.pm_trisample.proofs.RunPlanting.{first_start, second_start}
use Rattle.pm_trisample.proofs.anew.start_of_run.Goals as goal

pub returns-then-run-eq0 : goal.returns-then-run-eq0
returns-then-run-eq0 c = first_start (contour c.args.tree.now) c.in_ok-first.first c.in_ok-first.second c.args.run c.in_ok-first.ensures c.if-run-eq0.true

pub returns-else-run-eq0 : goal.returns-else-run-eq0
returns-else-run-eq0 c = second_start (contour c.args.tree.now) c.in_ok-first.first c.in_ok-first.second c.args.run c.in_ok-first.ensures c.requires c.if-run-eq0.false
