use Rattle.std.proofs.Common.{ℕ, Option, subst, arith}
use Rattle.std.specs.Prelude.{MatchOption}
use Rattle.pm_map.specs.declared.admitted.Degrees.TheVariants.{Exactly}
use Rattle.pm_map.specs.declared.simple.NotSimple.{NotSimple}
use Rattle.pm_map.specs.Structure.{dual}
use Rattle.pm_map.specs.Rotation.{structure_of}
use Rattle.pm_map.specs.ClassRules.{AllAdmitted, IsLeastOther}
use Rattle.pm_map.specs.Simple.{IsNotSimple, IsSimple}
use Rattle.pm_tri.proofs.Triangulations.{triangulation_of_faces}
use Rattle.pm_tri.proofs.size.tri_size.Goals as goal

pub returns-in-None : goal.returns-in-None
returns-in-None c =
    triangulation_of_faces c.args.map.now c.edges-in-None.result c.edges-in-None.ensures.valid c.edges-in-None.ensures.edges
    (λ none. c.if-edges-eq0.false (omega (arith, none, c.edges.ensures.edges, c.edges-in-None.ensures.edges)))
    (subst (λ (found : Option ℕ). MatchOption found (AllAdmitted (dual (structure_of c.args.map.now)) (Exactly 3)) (IsLeastOther (dual (structure_of c.args.map.now)) (Exactly 3))) c.in_default.is c.in_ok-dart.ensures)
    (subst (λ (found : Option NotSimple). MatchOption found (IsSimple (structure_of c.args.map.now)) (IsNotSimple (structure_of c.args.map.now))) c.in-None.is c.in_ok-dart-2.ensures)
