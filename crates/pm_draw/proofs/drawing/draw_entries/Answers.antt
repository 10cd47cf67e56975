use Rattle.std.proofs.Common.{arith}
use Rattle.pm_draw.specs.Drawn.{words_of}
use Rattle.pm_draw.proofs.DrawnLemmas.{none_drawn, one_more_drawn, all_drawn}
use Rattle.pm_draw.proofs.drawing.draw_entries.Goals as goal

pub loop-place-init : goal.loop-place-init
loop-place-init c = none_drawn c.args.bounds.now c.args.entries.now (words_of c.args.rng.now)

pub loop-place-preserved : goal.loop-place-preserved
loop-place-preserved c =
    one_more_drawn c.args.bounds.now c.loop-place.entries c.loop-place.place c.draw_below.result (words_of c.args.rng.now) (words_of c.loop-place.rng)
    (words_of c.draw_below.new.rng) c.loop-place-test.true (omega arith) c.loop-place.invariant c.draw_below.ensures.drawn c.draw_below.ensures.left c.draw_below.ensures.within

pub returns : goal.returns
returns c =
    let all = all_drawn c.args.bounds.now c.loop-place.entries (words_of c.args.rng.now) (words_of c.loop-place.rng) c.loop-place.place
    c.loop-place.invariant (omega arith) (omega arith) in
    record { drawn = all.0; left = all.1.0; valid = all.1.1 }
