use Rattle.std.proofs.Common.{refl}
use Rattle.pm_cli.specs.steps.Answering.{tells}
use Rattle.pm_cli.proofs.printing.print_map.Goals as goal

pub returns : goal.returns
returns c = tells _ (record { other = c.args.map.now; rooted = c.requires; is_image = refl; is_text = c.in_ok-canonical_bytes.ensures })
