use Rattle.std.proofs.Common.{◌≡◌, ◌/◌, length, arith}
use Rattle.pm_mapfile.specs.steps.Printed.{cut}
use Rattle.pm_mapfile.proofs.PrintLemmas.{list_total}
use Rattle.pm_mapfile.proofs.TwinPrintLemmas.{parts_of_text, list_text_with_twins}
use Rattle.pm_mapfile.proofs.write_twins.bytes_with_twins.Goals as goal

pub put_vertices_text-requires : goal.put_vertices_text-requires
put_vertices_text-requires c = rw (c.deref.ensures.value, c.deref-2.ensures.value) (list_total c.args.map.now _ _ c.in_ok-list.ensures)

pub returns : goal.returns
returns c =
    let edges : c.edges-edges.result ≡ length c.args.map.now.sigma / 2 = omega (arith, c.edges-edges.ensures.edges) in
    list_text_with_twins c.args.map.now c.args.class.now c.edges-edges.result c.root.result c.in_ok-list.list.darts.items c.in_ok-list.list.sizes.items c.extend_from_slice-2.new.self.items c.in_ok-list.ensures edges c.root.ensures
    (parts_of_text c.args.class.now c.edges-edges.result c.root.result (cut c.in_ok-list.list.sizes.items c.in_ok-list.list.darts.items) c.in_ok-text.text.items c.extend_from_slice.new.self.items c.put_class_line.new.text.items
    c.put_vertices_text.new.text.items c.put_twins.new.text.items c.extend_from_slice-2.new.self.items c.in_ok-text.ensures.items c.in_ok-extend_from_slice.ensures.items c.in_ok-put_class_line.ensures
    (rw (c.deref.ensures.value, c.deref-2.ensures.value) at c.in_ok-put_vertices_text.ensures) c.in_ok-put_twins.ensures c.in_ok-extend_from_slice-2.ensures.items)
