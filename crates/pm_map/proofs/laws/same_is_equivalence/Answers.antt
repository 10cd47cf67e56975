-- The clauses are the laws of what is the same.
use Rattle.pm_map.proofs.SameMaps.{same_as_itself, same_symmetric, same_transitive}
use Rattle.pm_map.proofs.StructureRotations.{each_structure_is_a_rotation}
use Rattle.pm_map.proofs.laws.same_is_equivalence.Goals as goal

pub returns-clause-reflexive : goal.returns-clause-reflexive
returns-clause-reflexive c = same_as_itself

pub returns-clause-symmetric : goal.returns-clause-symmetric
returns-clause-symmetric c = same_symmetric

pub returns-clause-transitive : goal.returns-clause-transitive
returns-clause-transitive c = same_transitive

pub returns-clause-numbered : goal.returns-clause-numbered
returns-clause-numbered c = each_structure_is_a_rotation
