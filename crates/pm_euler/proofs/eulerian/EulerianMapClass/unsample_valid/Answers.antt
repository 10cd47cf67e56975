use Rattle.std.proofs.Common.{◌∙◌}
use Rattle.pm_class.proofs.ExchangedLemmas.{unsampled_by_choices}
use Rattle.pm_euler.specs.Bounds.{eulerian_choices, eulerian_residues}
use Rattle.pm_euler.specs.Eulerian.{IsEulerianAnswer, SamplesEulerian}
use Rattle.pm_euler.proofs.EulerianClass.{eulerian_class}
use Rattle.pm_euler.proofs.EulerianMade.{eulerian_parts}
use Rattle.pm_euler.proofs.TreeSamples.{choices_of_map, map_degrees, old_plant_low, unplanted_is_made}
use Rattle.pm_euler.proofs.eulerian.EulerianMapClass.unsample_valid.Goals as goal

pub unplant-requires-clause-degrees : goal.unplant-requires-clause-degrees
unplant-requires-clause-degrees c = map_degrees (eulerian_class c.args.size.now c.requires.size.0) c.args.map.now c.edges-edges.ensures.valid c.requires.size.1

pub unplant-requires-clause-leaf : goal.unplant-requires-clause-leaf
unplant-requires-clause-leaf c =
    old_plant_low (eulerian_class c.args.size.now c.requires.size.0) c.args.map.now c.args.residue.now c.edges-edges.ensures.valid c.requires.size.1 (eulerian_parts c.args.size.now c.args.residue.now c.requires.valid)

pub prefix_of-requires-clause-made : goal.prefix_of-requires-clause-made
prefix_of-requires-clause-made c =
    let r = eulerian_parts c.args.size.now c.args.residue.now c.requires.valid in
    unplanted_is_made (eulerian_class c.args.size.now c.requires.size.0) c.args.map.now r.rest r.old_plant c.in_ok-unplanted.unplanted.tree c.in_ok-unplanted.unplanted.free
    c.edges-edges.ensures.valid c.requires.size.1 r.valid c.in_ok-unplanted.ensures

pub returns : goal.returns
returns c =
    let r = eulerian_parts c.args.size.now c.args.residue.now c.requires.valid in
    unsampled_by_choices eulerian_choices eulerian_residues SamplesEulerian IsEulerianAnswer c.args.size.now c.args.map.now c.args.residue.now c.requires.size c.requires.valid c.of.result
    (choices_of_map (eulerian_class c.args.size.now c.requires.size.0) c.args.map.now c.args.residue.now r.rest r.old_plant c.in_ok-unplanted.unplanted.tree c.in_ok-unplanted.unplanted.free c.in_ok-choices.choices.items c.of.result
    c.edges-edges.ensures.valid r.whole c.in_ok-unplanted.ensures c.in_ok-choices.ensures (c.of.ensures ∙ c.in_ok-push.ensures.items))
