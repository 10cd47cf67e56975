use Rattle.pm_tri.proofs.BitTrees.{bits_have_trees, bits_tell_trees, trees_have_bits}
use Rattle.pm_tri.proofs.laws.stem_trees_are_bits.Goals as goal

pub returns : goal.returns
returns c = record { bits = trees_have_bits; trees = bits_have_trees; unique = bits_tell_trees }
