use Rattle.std.proofs.Common.{ℕ, Option, subst, arith}
use Rattle.std.specs.Prelude.{MatchOption}
use Rattle.pm_limits.specs.declared.TheConstants.{MAX_DEGREE}
use Rattle.pm_map.specs.ClassRules.{AllAdmitted, IsLeastOther}
use Rattle.pm_map.specs.Rotation.{structure_of}
use Rattle.pm_map.specs.Structure.{dual}
use Rattle.pm_map.specs.declared.admitted.Degrees.TheVariants.{EvenUpTo}
use Rattle.pm_general.proofs.BipartiteClass.{dual_is_bipartite, vertices_of_dual}
use Rattle.pm_general.proofs.bipartite.BipartiteMapClass.size_of.Goals as goal

pub profile_of_even-requires-clause-some : goal.profile_of_even-requires-clause-some
profile_of_even-requires-clause-some c = let some = c.if-edges-eq0.false in omega (arith, some, c.edges.ensures.edges, c.in_ok-behind.ensures.as_long)

pub profile_of_even-requires-clause-degrees : goal.profile_of_even-requires-clause-degrees
profile_of_even-requires-clause-degrees c =
    vertices_of_dual c.args.map.now c.in_ok-behind.behind c.edges.ensures.valid c.in_ok-behind.ensures
    (subst (λ (found : Option ℕ). MatchOption found (AllAdmitted (dual (structure_of c.args.map.now)) (EvenUpTo MAX_DEGREE)) (IsLeastOther (dual (structure_of c.args.map.now)) (EvenUpTo MAX_DEGREE))) c.in_default.is c.in_ok-dart.ensures)

pub returns : goal.returns
returns c =
    let found = c.in_ok-profile_of_even.ensures in
    (found.0, dual_is_bipartite c.in_ok-profile_of_even.field-0 c.args.map.now c.in_ok-behind.behind c.edges.ensures.valid c.in_ok-behind.ensures found.1)
