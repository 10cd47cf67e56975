use Rattle.std.proofs.Common.{◌∙◌, ap, sym, subst}
use Rattle.pm_tri.specs.Bits.{AreTreeBits}
use Rattle.pm_trisample.specs.Objects.{bits_of_objects}
use Rattle.pm_trisample.proofs.TriObjects.{bits_are_tree_bits}
use Rattle.pm_trisample.proofs.sample.make.Goals as goal

pub tri_tree_of_bits-requires : goal.tri_tree_of_bits-requires
tri_tree_of_bits-requires c =
    subst AreTreeBits (sym (c.deref-3.ensures.value ∙ c.in_ok-bits.ensures ∙ ap (bits_of_objects c.args.n) c.deref-2.ensures.value))
    (bits_are_tree_bits c.args.n c.args.code.now c.args.which c.in_ok-read.read.start c.in_ok-read.read.objects.items c.requires.size c.requires.long c.in_ok-read.ensures)
