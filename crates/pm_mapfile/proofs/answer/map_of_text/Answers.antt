use Rattle.std.proofs.Common.{◌≡◌, length, ap, ◌∙◌, arith}
use Rattle.pm_mapfile.specs.steps.Rotation.{vertices_of_lines}
use Rattle.pm_mapfile.proofs.LinesLemmas.{sizes_of_text, text_below}
use Rattle.pm_mapfile.proofs.LineCycles.{lines_permute, lines_are_vertices, lines_within}
use Rattle.pm_mapfile.proofs.TextAnswers.{answer_of_rotation}
use Rattle.pm_mapfile.proofs.answer.map_of_text.Goals as goal

pub rotation_of_lines-requires-clause-sizes : goal.rotation_of_lines-requires-clause-sizes
rotation_of_lines-requires-clause-sizes c =
    rw (c.deref.ensures.value, c.deref-2.ensures.value) (sizes_of_text c.args.text.now.edges c.args.text.now.root c.args.text.now.darts.items c.args.text.now.sizes.items c.requires.lines)

pub rotation_of_lines-requires-clause-below : goal.rotation_of_lines-requires-clause-below
rotation_of_lines-requires-clause-below c =
    rw c.deref.ensures.value (text_below c.args.text.now.edges c.args.text.now.root c.args.text.now.darts.items c.args.text.now.sizes.items c.requires.lines)

pub returns-in-Ok : goal.returns-in-Ok
returns-in-Ok c =
    let told = rw (c.deref.ensures.value, c.deref-2.ensures.value) at c.in-Ok.ensures in
    answer_of_rotation c.args.text.now.edges c.args.text.now.root c.args.limit c.args.text.now.darts.items c.args.text.now.sizes.items c.in-Ok.sigma.items c.from_rotation.result
    (omega (arith, c.if-text-from.false, c.from.ensures)) c.requires.limit told c.from_rotation.ensures

pub vertex_count-vertices-requires : goal.vertex_count-vertices-requires
vertex_count-vertices-requires c =
    let are = sizes_of_text c.args.text.now.edges c.args.text.now.root c.args.text.now.darts.items c.args.text.now.sizes.items c.requires.lines in
    let few = lines_within c.args.text.now.darts.items c.args.text.now.sizes.items are in
    let size : length c.deref-in-Ok.result.now ≡ length c.args.text.now.sizes.items = ap length c.deref-in-Ok.ensures.value in
    omega (arith, few, size, ap length c.requires.lines.darts_are, c.requires.lines.are_lines.count, c.if-text-from.false, c.from.ensures, c.requires.limit)

pub from_rotation-requires-clause-permutation : goal.from_rotation-requires-clause-permutation
from_rotation-requires-clause-permutation c =
    let told = rw (c.deref.ensures.value, c.deref-2.ensures.value) at c.in-Ok.ensures in
    lines_permute c.args.text.now.darts.items c.args.text.now.sizes.items c.in-Ok.sigma.items
    (sizes_of_text c.args.text.now.edges c.args.text.now.root c.args.text.now.darts.items c.args.text.now.sizes.items c.requires.lines) told

pub from_rotation-requires-clause-counted : goal.from_rotation-requires-clause-counted
from_rotation-requires-clause-counted c =
    let told = rw (c.deref.ensures.value, c.deref-2.ensures.value) at c.in-Ok.ensures in
    c.vertex_count-vertices.ensures ∙ ap vertices_of_lines c.deref-in-Ok.ensures.value
    ∙ lines_are_vertices c.args.text.now.darts.items c.args.text.now.sizes.items c.in-Ok.sigma.items c.from.result
    (sizes_of_text c.args.text.now.edges c.args.text.now.root c.args.text.now.darts.items c.args.text.now.sizes.items c.requires.lines) told
