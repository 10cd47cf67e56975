use Rattle.pm_draw.specs.Drawn.{words_of}
use Rattle.pm_draw.proofs.DrawnLemmas.{AreDrawn}
use Rattle.pm_draw.proofs.drawing.draw_entries.Given as goal

abbrev pub invariant-loop-place : goal.invariant-loop-place
invariant-loop-place l = AreDrawn l.bounds l.place (words_of l.fn.rng) l.entries (words_of l.rng)
