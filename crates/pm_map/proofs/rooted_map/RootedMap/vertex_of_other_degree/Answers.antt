use Rattle.std.proofs.Common.{◌≡◌, ℕ, List, length, vec_len, ap, ◌∙◌, subst, arith}
use Rattle.std.specs.Prelude.{MatchOption}
use Rattle.pm_map.specs.steps.DegreeScan.{AreAdmitted, IsLeastEntry}
use Rattle.pm_map.specs.Rotation.{structure_of}
use Rattle.pm_map.proofs.DegreeRules.{read_whole, other_from_entry}
use Rattle.pm_map.proofs.rooted_map.RootedMap.vertex_of_other_degree.Goals as goal

pub returns : goal.returns
returns c =
    let long : length c.vertex_degrees.new.out ≡ length c.args.self.now.sigma = omega (arith, c.in_ok-sizes.ensures.len, ap length c.sigma.ensures.sigma) in
    let read : c.deref.result.now ≡ c.vertex_degrees.new.out = c.deref.ensures.value ∙ read_whole c.in_ok-sizes.sizes.len c.vertex_degrees.new.out c.in_ok-sizes.sizes.items (let whole : length c.vertex_degrees.new.out ≡ vec_len c.in_ok-sizes.sizes = omega arith in whole) in
    other_from_entry (structure_of c.args.self.now) c.args.degrees c.vertex_degrees.new.out c.least_other.result long c.vertex_degrees.ensures
    (subst (λ (sizes : List ℕ). MatchOption c.least_other.result (AreAdmitted c.args.degrees sizes) (IsLeastEntry c.args.degrees sizes)) read c.least_other.ensures)
