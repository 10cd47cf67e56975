use Rattle.pm_medial.proofs.unmedials.unmedial.Goals as goal

pub unmedial_of_quartic-requires-clause-degrees : goal.unmedial_of_quartic-requires-clause-degrees
unmedial_of_quartic-requires-clause-degrees c = rw c.in_default.is at c.in_ok-dart.ensures
