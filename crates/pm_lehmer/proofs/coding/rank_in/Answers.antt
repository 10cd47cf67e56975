use Rattle.std.proofs.Common.{◌≡◌, true, false, arith, rules}
use Rattle.std.specs.Prelude.{nat_lt}
use Rattle.std.specs.List.Sorted.{IsPartitionPoint}
use Rattle.std.proofs.lemmas.Bool.{ltb-true, ltb-false}
use Rattle.std.proofs.lemmas.List.Sorted.{IsPartitionPoint-from_clause, IsPartitionedBy-ltb}
use Rattle.pm_lehmer.specs.Lehmer.{count_below}
use Rattle.pm_lehmer.proofs.Ranked.{count_below-split}
use Rattle.pm_lehmer.proofs.coding.rank_in.Goals as goal

pub returns : goal.returns
returns c =
    let point : IsPartitionPoint (λ y. nat_lt y c.args.entry ≡ true) (λ y. nat_lt y c.args.entry ≡ false) c.args.sorted.now c.partition_point.result =
    IsPartitionPoint-from_clause (λ y. nat_lt y c.args.entry) c.args.sorted.now c.partition_point.result c.partition_point.ensures.partitioned
    (IsPartitionedBy-ltb (λ y. y) c.args.sorted.now c.args.entry c.requires) (λ a r f' called. search rules) in
    let count : count_below c.args.entry c.args.sorted.now ≡ c.partition_point.result = count_below-split c.args.entry c.partition_point.result c.args.sorted.now c.partition_point.ensures.bound
    (λ place less. ltb-true _ _ (point.0 place 0 (omega arith) less))
    (λ place past inside. ltb-false _ _ (point.1 place 0 past inside)) in
    omega (arith, count)
