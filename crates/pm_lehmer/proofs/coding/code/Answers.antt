use Rattle.std.proofs.Common.{◌≡◌, ◌∙◌, ap, arith}
use Rattle.pm_lehmer.specs.Lehmer.{ranks_among, code_of}
use Rattle.pm_lehmer.proofs.Ranked.{code_of-ranks, ranks_are_small}
use Rattle.pm_lehmer.proofs.coding.code.Goals as goal

pub code_from-requires-2-clause-near : goal.code_from-requires-2-clause-near
code_from-requires-2-clause-near c =
    let are : c.deref.result.now ≡ ranks_among c.args.entries.now c.args.entries.now = c.deref.ensures.value ∙ c.in_ok-ranks.ensures.ranks in
    rw are (λ k d inside. omega (arith, ranks_are_small c.args.entries.now k d inside))

pub returns-clause-code : goal.returns-clause-code
returns-clause-code c =
    let are : c.deref.result.now ≡ ranks_among c.args.entries.now c.args.entries.now = c.deref.ensures.value ∙ c.in_ok-ranks.ensures.ranks in
    let same : code_of c.deref.result.now ≡ code_of c.args.entries.now = ap code_of are ∙ code_of-ranks c.args.entries.now in
    rw same at c.code_from-2.ensures.code
