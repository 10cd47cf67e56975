use Rattle.std.proofs.Common.{◌≡◌, ℕ, List, length, suc, vec_len, ap, sym, ◌∙◌, subst, arith}
use Rattle.pm_map.specs.Rotation.{structure_of}
use Rattle.pm_map.specs.DegreeTable.{AreVertexCounts}
use Rattle.pm_map.specs.steps.Tables.{IsTableOf}
use Rattle.pm_map.proofs.DegreeRules.{read_whole}
use Rattle.pm_map.proofs.TableLemmas.{vertex_counts}
use Rattle.pm_map.proofs.rooted_map.RootedMap.vertices_by_degree.Goals as goal

pub returns : goal.returns
returns c =
    let long : length c.vertex_degrees.new.out ≡ length c.args.self.now.sigma = omega (arith, c.in_ok-degrees.ensures.len, ap length c.sigma.ensures.sigma) in
    let read : c.deref.result.now ≡ c.vertex_degrees.new.out = c.deref.ensures.value ∙ read_whole c.in_ok-degrees.degrees.len c.vertex_degrees.new.out c.in_ok-degrees.degrees.items (let whole : length c.vertex_degrees.new.out ≡ vec_len c.in_ok-degrees.degrees = omega arith in whole) in
    let wide : length c.write_table.new.table ≡ vec_len c.in_ok-table.table = omega arith in
    let greatest : length c.write_table.new.table ≡ suc c.args.greatest = omega (arith, wide, c.in_ok-table.ensures.len) in
    subst (AreVertexCounts (structure_of c.args.self.now) c.args.greatest) (sym (read_whole c.in_ok-table.table.len c.write_table.new.table c.in_ok-table.table.items wide))
    (vertex_counts (structure_of c.args.self.now) c.args.greatest c.vertex_degrees.new.out c.write_table.new.table c.sigma.ensures.valid.structure long c.vertex_degrees.ensures greatest
    (subst (λ (ds : List ℕ). IsTableOf ds c.write_table.new.table) read c.write_table.ensures.table))
