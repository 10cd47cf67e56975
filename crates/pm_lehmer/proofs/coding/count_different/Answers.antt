-- The numbers less the least are below how many there are, and have the same code.
use Rattle.std.proofs.Common.{◌≡◌, ℕ, ◌+◌, ◌-◌, ◌*◌, length, arith, sym, ap, ◌∙◌, subst}
use Rattle.pm_lehmer.specs.Lehmer.{code_of}
use Rattle.pm_lehmer.specs.steps.Counted.{IsMore}
use Rattle.pm_lehmer.specs.steps.Held.{IsHeld}
use Rattle.pm_lehmer.proofs.Arranged.{code_of-is_code}
use Rattle.pm_lehmer.proofs.Held.{IsHeld-none}
use Rattle.pm_lehmer.proofs.Lowered.{lowered, length-lowered, get_or-lowered, coded_whole}
use Rattle.pm_lehmer.proofs.Ranked.{IsCodedFrom-none, IsCodedFrom-step, counts_have_room, later_below, later_below-less}
use Rattle.pm_lehmer.proofs.coding.count_different.Goals as goal

pub different-init : goal.different-init
different-init c =
    let long = length-lowered c.args.least c.args.numbers.now in
    IsCodedFrom-none _ (lowered c.args.least c.args.numbers.now) _ _ (sym long) (c.requires.code_length ∙ sym long) (λ below none. IsHeld-none _ _ below c.requires.no_bits c.requires.none_counted none)

pub insert-requires-clause-room : goal.insert-requires-clause-room
insert-requires-clause-room c =
    let e : c.different.place - 1 + 1 ≡ c.different.place = omega arith in
    let long = length-lowered c.args.least c.args.numbers.now in
    let below = later_below (lowered c.args.least c.args.numbers.now) (c.different.place - 1 + 1) in
    counts_have_room c.different.counts (λ word. below (64 * word)) (length (lowered c.args.least c.args.numbers.now)) (rw e c.different.invariant.held.counted)
    (λ word. later_below-less (lowered c.args.least c.args.numbers.now) (c.different.place - 1) (64 * word) (omega arith)) (omega arith)

pub different-preserved : goal.different-preserved
different-preserved c =
    let e : c.different.place - 1 + 1 ≡ c.different.place = omega arith in
    let long = length-lowered c.args.least c.args.numbers.now in
    let here = sym (get_or-lowered c.args.least c.args.numbers.now (c.different.place - 1) (omega arith)) in
    IsCodedFrom-step (IsHeld c.different.words c.different.counts) (IsHeld c.insert.new.words c.insert.new.counts) (lowered c.args.least c.args.numbers.now) c.different.code (c.different.place - 1) c.in-Some.smaller
    (rw e c.different.invariant) (omega arith) (omega arith)
    (λ below held. c.in-Some.ensures.smaller below held ∙ ap below here)
    (λ below more held one. c.in-Some.ensures.held below more held (subst (λ (n : ℕ). IsMore n 1 below more) (sym here) one))

pub returns-clause-code : goal.returns-clause-code
returns-clause-code c = λ different. coded_whole _ c.args.least c.args.numbers.now c.different.code c.different.place (omega arith) c.requires.least c.different.invariant

pub returns-clause-is_code : goal.returns-clause-is_code
returns-clause-is_code c = λ different.
    let all : c.different.code ≡ code_of c.args.numbers.now = coded_whole _ c.args.least c.args.numbers.now c.different.code c.different.place (omega arith) c.requires.least c.different.invariant in
    rw all (code_of-is_code c.args.numbers.now)
