use Rattle.std.proofs.Common.{refl, arith, slice_index}
use Rattle.pm_lehmer.proofs.Ones.{clear_bit}
use Rattle.pm_lehmer.proofs.Held.{has_bit, held_rank, IsHeld-fewer}
use Rattle.pm_lehmer.proofs.sets.remove.Goals as goal

pub bit_of_rank-bit-requires : goal.bit_of_rank-bit-requires
bit_of_rank-bit-requires c =
    has_bit c.args.words.now c.args.counts.now c.args.rank c.take-word.result.0 c.take-word.result.1 c.requires.ranked (omega arith) (omega arith) (omega (arith, c.type_inv.words c.take-word.result.0)) c.take-word.ensures.ranked c.take-word.ensures.less

pub returns-clause-ranked : goal.returns-clause-ranked
returns-clause-ranked c = λ below held none.
    held_rank c.args.words.now c.args.counts.now c.args.rank _ c.take-word.result.0 c.bit_of_rank-bit.result c.take-word.result.1 below held none refl (omega arith) c.bit_of_rank-bit.ensures c.take-word.ensures.ranked

pub returns-clause-held : goal.returns-clause-held
returns-clause-held c = λ fewer more held one.
    IsHeld-fewer _ _ _ _ c.take-word.result.0 c.bit_of_rank-bit.result _ fewer more held refl c.bit_of_rank-bit.ensures.inside (omega arith) one
    (clear_bit (slice_index c.args.words.now c.take-word.result.0) c.bit_of_rank-bit.result c.bit_of_rank-bit.ensures.inside c.bit_of_rank-bit.ensures.one) c.take-word.ensures.counted
