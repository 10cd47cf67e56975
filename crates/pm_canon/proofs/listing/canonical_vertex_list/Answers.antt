use Rattle.std.proofs.Common.{◌≡◌, length, map, slice_index, refl, ap, arith}
use Rattle.std.proofs.lemmas.List.{length-map}
use Rattle.pm_map.specs.Rotation.{structure_of}
use Rattle.pm_canon.specs.VertexList.{IsVertexList}
use Rattle.pm_canon.proofs.CanonLemmas.{IsNumbered, IsNumbered-from}
use Rattle.pm_canon.proofs.ListLemmas.{named_list, listed_again, sized_list, written_whole}
use Rattle.pm_canon.proofs.listing.canonical_vertex_list.Goals as goal

pub returns : goal.returns
returns c =
    let m = c.args.map.now in
    let darts = c.in_ok-list.list.darts.items in
    let sizes = c.in_ok-list.list.sizes.items in
    let names = c.in_ok-names_of.field-0.items in
    let numbered : IsNumbered m darts names =
    IsNumbered-from m c.sigma-sigma.result.now c.root.result darts darts names names c.sigma-sigma.ensures.valid c.sigma-sigma.ensures.sigma c.root.ensures c.in_ok-list.ensures.met refl
    c.in_ok-names_of.ensures.size (rw c.deref_mut.ensures.value at c.in_ok-names_of.ensures.names) refl in
    let list : IsVertexList (structure_of m) darts sizes =
    listed_again m c.sigma-sigma.result.now c.root.result darts sizes c.sigma-sigma.ensures.sigma c.root.ensures (sized_list _ darts sizes c.in_ok-list.ensures.met c.in_ok-list.ensures.sized) in
    let named : c.names_of.new.darts ≡ map (slice_index names) darts = rw c.deref_mut.ensures.value at c.in_ok-names_of.ensures.named in
    let size : length c.names_of.new.darts ≡ c.in_ok-list.list.darts.len = omega (arith, ap length named, length-map darts (slice_index names), c.in_ok-list.list.darts.ok.0) in
    rw (written_whole c.in_ok-list.list.darts.len c.names_of.new.darts darts size) (named_list m darts names sizes c.names_of.new.darts numbered list named)
