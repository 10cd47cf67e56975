use Rattle.pm_map.proofs.DualMaps.{dual_is_rooted}
use Rattle.pm_cli.specs.steps.Answering.{tells}
use Rattle.pm_cli.proofs.printing.print_dual.Goals as goal

pub returns : goal.returns
returns c = tells _ (record {
  other = c.in_ok-image.image;
  rooted = dual_is_rooted c.args.map.now c.in_ok-image.image c.requires c.in_ok-image.ensures;
  is_image = c.in_ok-image.ensures;
  is_text = c.in_ok-canonical_bytes.ensures;
})
