use Rattle.pm_medial.proofs.DualDegrees.{dual_plane, dual_exchanges_degrees, dual_exchanges_classes}
use Rattle.pm_medial.proofs.laws.dual_exchanges_degrees.Goals as goal

pub returns-clause-plane : goal.returns-clause-plane
returns-clause-plane c = dual_plane

pub returns-clause-degrees : goal.returns-clause-degrees
returns-clause-degrees c = dual_exchanges_degrees

pub returns-clause-classes : goal.returns-clause-classes
returns-clause-classes c = dual_exchanges_classes
