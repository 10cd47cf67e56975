use Rattle.pm_map.specs.Rotation.{structure_of}
use Rattle.pm_medial.proofs.UnmedialLaws.{four_is_even}
use Rattle.pm_medial.proofs.UnmedialSteps.{all_four, few_twins, twins_are_twinning, darts_permute, rotation_is_unmedial}
use Rattle.pm_medial.proofs.unmedials.unmedial_of_quartic.Goals as goal

pub colours_of-requires : goal.colours_of-requires
colours_of-requires c = four_is_even (structure_of c.args.map.now) (all_four (structure_of c.args.map.now) c.requires.degrees)

pub darts_of-requires-clause-small : goal.darts_of-requires-clause-small
darts_of-requires-clause-small c =
    rw c.deref-2.ensures.value
    (few_twins c.args.map.now c.in_ok-colours.colours.items c.in_ok-twins.twins.items c.edges-edges.ensures.valid
    (all_four (structure_of c.args.map.now) c.requires.degrees) c.in_ok-colours.ensures (rw c.deref.ensures.value at c.in_ok-twins.ensures))

pub darts_of-requires-clause-twinning : goal.darts_of-requires-clause-twinning
darts_of-requires-clause-twinning c =
    rw c.deref-2.ensures.value
    (twins_are_twinning c.args.map.now c.in_ok-colours.colours.items c.in_ok-twins.twins.items c.edges-edges.ensures.valid
    (all_four (structure_of c.args.map.now) c.requires.degrees) c.in_ok-colours.ensures (rw c.deref.ensures.value at c.in_ok-twins.ensures))

pub rotation_of-requires-clause-permutation : goal.rotation_of-requires-clause-permutation
rotation_of-requires-clause-permutation c =
    rw c.deref-4.ensures.value
    (darts_permute c.args.map.now c.in_ok-colours.colours.items c.in_ok-twins.twins.items c.edges-edges.ensures.valid
    (all_four (structure_of c.args.map.now) c.requires.degrees) c.in_ok-colours.ensures (rw c.deref.ensures.value at c.in_ok-twins.ensures)
    c.in_ok-darts.darts.items (rw c.deref-2.ensures.value at c.in_ok-darts.ensures.length) (rw c.deref-2.ensures.value at c.in_ok-darts.ensures.each))

pub from_rooted_rotation-requires : goal.from_rooted_rotation-requires
from_rooted_rotation-requires c =
    (rotation_is_unmedial c.args.map.now c.in_ok-colours.colours.items c.in_ok-twins.twins.items c.edges-edges.ensures.valid
    (all_four (structure_of c.args.map.now) c.requires.degrees) c.in_ok-colours.ensures (rw c.deref.ensures.value at c.in_ok-twins.ensures)
    c.in_ok-darts.darts.items (rw c.deref-2.ensures.value at c.in_ok-darts.ensures.length) (rw c.deref-2.ensures.value at c.in_ok-darts.ensures.each)
    c.in_ok-rotation.rotation.items c.index-root.result.now c.root.result c.requires.some
    (rw (c.deref-3.ensures.value, c.deref-4.ensures.value) at c.in_ok-rotation.ensures) c.index-root.ensures c.root.ensures).rooted

pub returns : goal.returns
returns c =
    rw c.from_rooted_rotation.ensures
    (rotation_is_unmedial c.args.map.now c.in_ok-colours.colours.items c.in_ok-twins.twins.items c.edges-edges.ensures.valid
    (all_four (structure_of c.args.map.now) c.requires.degrees) c.in_ok-colours.ensures (rw c.deref.ensures.value at c.in_ok-twins.ensures)
    c.in_ok-darts.darts.items (rw c.deref-2.ensures.value at c.in_ok-darts.ensures.length) (rw c.deref-2.ensures.value at c.in_ok-darts.ensures.each)
    c.in_ok-rotation.rotation.items c.index-root.result.now c.root.result c.requires.some
    (rw (c.deref-3.ensures.value, c.deref-4.ensures.value) at c.in_ok-rotation.ensures) c.index-root.ensures c.root.ensures)
