use Rattle.std.proofs.Common.{◌≡◌, ◌/◌, ◌++◌, length, arith}
use Rattle.std.specs.Prelude.{codes}
use Rattle.pm_mapfile.specs.MapText.{map_line, vertex_lines, HasCanonicalText}
use Rattle.pm_mapfile.specs.steps.Printed.{cut}
use Rattle.pm_mapfile.proofs.PrintLemmas.{list_total, canonical_text, text_is}
use Rattle.pm_mapfile.proofs.write.canonical_bytes.Goals as goal

pub list_bytes-requires : goal.list_bytes-requires
list_bytes-requires c = rw (c.deref.ensures.value, c.deref-2.ensures.value) (list_total c.in_ok-list.ensures.canonical _ _ c.in_ok-list.ensures.list)

pub returns : goal.returns
returns c =
    let edges : c.edges.result ≡ length c.args.map.now.sigma / 2 = omega (arith, c.edges.ensures.edges) in
    text_is c.list_bytes.result (λ text. text ≡ map_line c.edges.result 0 ++ vertex_lines (cut c.deref-2.result.now c.deref.result.now) ++ codes "end\n") (HasCanonicalText c.args.map.now) c.list_bytes.ensures
    (λ text printed. canonical_text c.args.map.now c.edges.result c.in_ok-list.list.darts.items c.in_ok-list.list.sizes.items text c.in_ok-list.ensures edges
    (rw (c.deref.ensures.value, c.deref-2.ensures.value) at printed))
