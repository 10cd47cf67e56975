use Rattle.pm_cli.specs.declared.refusal.Stop.TheVariants.{Write}
use Rattle.pm_cli.specs.steps.Streams.{IsWriting}
use Rattle.pm_cli.proofs.EndingLemmas.{flush_failed}
use Rattle.pm_cli.proofs.Refusals.{stopped_as}
use Rattle.pm_cli.proofs.writing.write_text.Goals as goal

pub returns-in_err-write : goal.returns-in_err-write
returns-in_err-write g c = record {
  written = stopped_as (IsWriting _ _ _ _ _) Write
      (c.in_err-write.ensures.prefix, c.in_err-write.ensures.cause) c.from_residual.result c.from_residual.ensures.1;
}

pub returns-in_err-flush : goal.returns-in_err-flush
returns-in_err-flush g c = record {
  written = stopped_as (IsWriting _ _ _ _ _) Write
      (flush_failed _ _ _ _ _ _ _ c.in_ok-write.ensures.whole c.flush.ensures.stays c.in_ok-write.ensures.calm c.in_err-flush.ensures.cause)
      c.from_residual-in_err-flush.result c.from_residual-in_err-flush.ensures.1;
}
