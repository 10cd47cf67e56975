-- The numbers less the least are below how many there are, and have the same code.
use Rattle.std.proofs.Common.{◌≡◌, ℕ, ◌+◌, ◌-◌, ◌<◌, length, get_or, arith, sym, ap, ◌∙◌, subst}
use Rattle.std.proofs.lemmas.List.Elements.{All-get_or}
use Rattle.pm_lehmer.specs.Lehmer.{code_of}
use Rattle.pm_lehmer.specs.steps.Counted.{IsCounted, IsMore}
use Rattle.pm_lehmer.proofs.Arranged.{code_of-is_code}
use Rattle.pm_lehmer.proofs.Lowered.{lowered, length-lowered, get_or-lowered, coded_whole}
use Rattle.pm_lehmer.proofs.Ranked.{IsCodedFrom-none, IsCodedFrom-step, counted-none, counts_have_room, later_below, later_below-less}
use Rattle.pm_lehmer.proofs.coding.count_later.Goals as goal

pub from_last-init : goal.from_last-init
from_last-init c =
    let long = length-lowered c.args.least c.args.numbers.now in
    IsCodedFrom-none _ (lowered c.args.least c.args.numbers.now) _ _ (sym long) (c.requires.code_length ∙ sym long) (λ below none. counted-none _ below c.requires.none_counted none)

pub put-requires-clause-inside : goal.put-requires-clause-inside
put-requires-clause-inside c =
    let near : get_or c.args.numbers.now (c.from_last.place - 1) 0 < c.args.least + length c.args.numbers.now =
    All-get_or (λ number. number < c.args.least + length c.args.numbers.now) c.args.numbers.now (c.from_last.place - 1) 0 (omega arith) c.requires.near in
    omega (arith, near, c.requires.least (c.from_last.place - 1) (omega arith))

pub put-requires-clause-room : goal.put-requires-clause-room
put-requires-clause-room c =
    let e : c.from_last.place - 1 + 1 ≡ c.from_last.place = omega arith in
    let long = length-lowered c.args.least c.args.numbers.now in
    let below = later_below (lowered c.args.least c.args.numbers.now) (c.from_last.place - 1 + 1) in
    counts_have_room c.from_last.counts below (length (lowered c.args.least c.args.numbers.now)) (rw e c.from_last.invariant.held)
    (λ number. later_below-less (lowered c.args.least c.args.numbers.now) (c.from_last.place - 1) number (omega arith)) (omega arith)

pub from_last-preserved : goal.from_last-preserved
from_last-preserved c =
    let e : c.from_last.place - 1 + 1 ≡ c.from_last.place = omega arith in
    let long = length-lowered c.args.least c.args.numbers.now in
    let here = sym (get_or-lowered c.args.least c.args.numbers.now (c.from_last.place - 1) (omega arith)) in
    IsCodedFrom-step (IsCounted c.from_last.counts) (IsCounted c.put.new.counts) (lowered c.args.least c.args.numbers.now) c.from_last.code (c.from_last.place - 1) c.put.result
    (rw e c.from_last.invariant) (omega arith) (omega arith)
    (λ below counted. c.put.ensures.smaller below counted ∙ ap below here)
    (λ below more counted one. c.put.ensures.counted below more counted (subst (λ (n : ℕ). IsMore n 1 below more) (sym here) one))

pub returns-clause-code : goal.returns-clause-code
returns-clause-code c = coded_whole _ c.args.least c.args.numbers.now c.from_last.code c.from_last.place (omega arith) c.requires.least c.from_last.invariant

pub returns-clause-is_code : goal.returns-clause-is_code
returns-clause-is_code c =
    let all : c.from_last.code ≡ code_of c.args.numbers.now = coded_whole _ c.args.least c.args.numbers.now c.from_last.code c.from_last.place (omega arith) c.requires.least c.from_last.invariant in
    rw all (code_of-is_code c.args.numbers.now)
