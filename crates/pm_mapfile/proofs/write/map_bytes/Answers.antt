use Rattle.std.proofs.Common.{◌≡◌, ◌/◌, ◌++◌, length, arith}
use Rattle.std.specs.Prelude.{codes}
use Rattle.pm_mapfile.specs.MapText.{map_line, vertex_lines, IsMapText}
use Rattle.pm_mapfile.specs.steps.Printed.{cut}
use Rattle.pm_mapfile.proofs.PrintLemmas.{list_total, list_text, text_is}
use Rattle.pm_mapfile.proofs.write.map_bytes.Goals as goal

pub list_bytes-requires : goal.list_bytes-requires
list_bytes-requires c = rw (c.deref.ensures.value, c.deref-2.ensures.value) (list_total c.args.map.now _ _ c.in_ok-list.ensures)

pub returns : goal.returns
returns c =
    let edges : c.edges.result ≡ length c.args.map.now.sigma / 2 = omega (arith, c.edges.ensures.edges) in
    text_is c.list_bytes.result (λ text. text ≡ map_line c.edges.result c.root.result ++ vertex_lines (cut c.deref-2.result.now c.deref.result.now) ++ codes "end\n") (IsMapText c.args.map.now) c.list_bytes.ensures
    (λ text printed. list_text c.args.map.now c.edges.result c.root.result c.in_ok-list.list.darts.items c.in_ok-list.list.sizes.items text c.in_ok-list.ensures edges c.root.ensures
    (rw (c.deref.ensures.value, c.deref-2.ensures.value) at printed))
