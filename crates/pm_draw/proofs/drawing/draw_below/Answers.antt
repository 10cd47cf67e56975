use Rattle.std.proofs.Common.{arith}
use Rattle.pm_draw.specs.Drawn.{words_of}
use Rattle.pm_draw.proofs.DrawnLemmas.{of_range}
use Rattle.pm_draw.proofs.drawing.draw_below.Goals as goal

pub returns : goal.returns
returns c =
    let drawn = of_range _ c.args.bound c.random_range.result (words_of c.args.rng.now) (words_of c.random_range.new.self) (omega arith) c.random_range.ensures.drawn in
    record { drawn = drawn.0; left = drawn.1; within = c.random_range.ensures.within.1 }
