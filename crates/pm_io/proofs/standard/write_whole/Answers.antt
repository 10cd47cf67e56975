use Rattle.std.proofs.lemmas.List.{take_rest}
use Rattle.pm_io.proofs.Writes.{IsWritten-more}
use Rattle.pm_io.proofs.standard.write_whole.Goals as goal

pub rest-preserved : goal.rest-preserved
rest-preserved g c =
    rw (take_rest c.rest.rest.now c.in-Ok.count) (IsWritten-more _ _ _ _ c.rest.rest.now c.in-Ok.count c.rest.invariant c.in-Ok.ensures.bytes)
