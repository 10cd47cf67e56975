use Rattle.std.proofs.Common.{◌∙◌, arith}
use Rattle.pm_lehmer.proofs.Ranked.{ranks_among-none, ranks_among-more, rank_fits}
use Rattle.pm_lehmer.proofs.coding.write_ranks.Goals as goal

pub entries-init : goal.entries-init
entries-init c = ranks_among-none c.args.entries.now

pub overflow_cast-ranks : goal.overflow_cast-ranks
overflow_cast-ranks c =
    let fits = rank_fits _ c.rank_in.result c.args.entries.now c.requires.few (c.rank_in.ensures ∙ c.requires.same_entries _) in
    omega (arith, fits)

pub entries-preserved : goal.entries-preserved
entries-preserved c =
    ranks_among-more c.args.entries.now c.entries.ranks c.entries.place c.rank_in.result c.entries.invariant (omega arith) (omega arith) (c.rank_in.ensures ∙ c.requires.same_entries _)
