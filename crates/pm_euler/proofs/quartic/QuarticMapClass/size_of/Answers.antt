use Rattle.std.proofs.Common.{ℕ, Option, subst, arith}
use Rattle.std.specs.Prelude.{MatchOption}
use Rattle.pm_map.specs.Rotation.{structure_of}
use Rattle.pm_map.specs.ClassRules.{AllAdmitted, IsLeastOther}
use Rattle.pm_map.specs.declared.admitted.Degrees.TheVariants.{Exactly}
use Rattle.pm_euler.proofs.QuarticMaps.{quartic_of_degrees}
use Rattle.pm_euler.proofs.quartic.QuarticMapClass.size_of.Goals as goal

pub returns : goal.returns
returns c =
    quartic_of_degrees c.args.map.now c.edges-2.result c.edges-2.ensures.valid c.edges-2.ensures.edges
    (λ none. c.if-edges-eq0.false (omega (arith, none, c.edges.ensures.edges, c.edges-2.ensures.edges)))
    (subst (λ (found : Option ℕ). MatchOption found (AllAdmitted (structure_of c.args.map.now) (Exactly 4)) (IsLeastOther (structure_of c.args.map.now) (Exactly 4))) c.in_default.is c.in_ok-dart.ensures)
