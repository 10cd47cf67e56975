use Rattle.std.proofs.Common.{◌∙◌, ap}
use Rattle.std.proofs.lemmas.List.Sorted.{IsNonDecreasingBy-from_sort}
use Rattle.pm_lehmer.specs.Lehmer.{count_below}
use Rattle.pm_lehmer.proofs.Ranked.{count_below-IsPermutation}
use Rattle.pm_lehmer.proofs.coding.ranks.Goals as goal

pub write_ranks-requires-clause-sorted : goal.write_ranks-requires-clause-sorted
write_ranks-requires-clause-sorted c =
    rw c.deref.ensures.value (IsNonDecreasingBy-from_sort (λ x. x) _ c.sort_unstable.ensures.sorted)

pub write_ranks-requires-clause-same_entries : goal.write_ranks-requires-clause-same_entries
write_ranks-requires-clause-same_entries c = λ number.
    ap (count_below number) c.deref.ensures.value ∙ count_below-IsPermutation number _ _ c.sort_unstable.ensures.permutation ∙ ap (count_below number) c.in_ok-sorted.ensures.items
