use Rattle.pm_class.proofs.UnnamedLemmas.{named_is_sampled}
use Rattle.pm_trisample.proofs.sample.tri_sample_valid.Goals as goal

pub returns : goal.returns
returns c = named_is_sampled _ _ _ _ c.args.choices.now c.in_ok-unnamed.unnamed c.in_ok-map.map c.in_ok-unnamed.ensures c.in_ok-map.ensures
