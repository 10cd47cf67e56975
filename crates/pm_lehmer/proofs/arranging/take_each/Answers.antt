use Rattle.std.proofs.Common.{arith, ◌≡◌, length, refl}
use Rattle.pm_lehmer.specs.Lehmer.{IsArrangementOf}
use Rattle.pm_lehmer.proofs.Arranged.{IsArrangedUpTo-none, IsArrangedUpTo-step, IsArrangedUpTo-all, IsArrangementOf-unique, has_rank, number_in_range}
use Rattle.pm_lehmer.proofs.arranging.take_each.Goals as goal

pub places-init : goal.places-init
places-init c = IsArrangedUpTo-none _ _ _ _ refl c.requires.all_held

pub remove-requires-clause-ranked : goal.remove-requires-clause-ranked
remove-requires-clause-ranked c = has_rank _ _ _ _ _ c.places.invariant c.requires.is_code (omega arith) (omega arith) (omega arith)

pub overflow_cast-arrangement : goal.overflow_cast-arrangement
overflow_cast-arrangement c = omega (arith, number_in_range _ _ _ _ _ _ c.places.invariant c.remove.ensures.ranked)

pub places-preserved : goal.places-preserved
places-preserved c = IsArrangedUpTo-step _ _ _ _ _ _ _ _ c.places.invariant (omega arith) (omega arith) c.remove.ensures.ranked c.remove.ensures.held

pub returns-clause-arranged : goal.returns-clause-arranged
returns-clause-arranged c =
    let all : c.places.place ≡ length c.args.code.now = omega arith in
    IsArrangedUpTo-all _ c.places.words c.places.counts _ (rw all at c.places.invariant) (omega arith)

pub returns-clause-only : goal.returns-clause-only
returns-clause-only c =
    let all : c.places.place ≡ length c.args.code.now = omega arith in
    let arranged : IsArrangementOf c.args.code.now c.places.arrangement = IsArrangedUpTo-all _ c.places.words c.places.counts _ (rw all at c.places.invariant) (omega arith) in
    record { only = λ other is. IsArrangementOf-unique _ other _ is arranged }
