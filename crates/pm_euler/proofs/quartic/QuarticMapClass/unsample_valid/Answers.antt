use Rattle.std.proofs.Common.{◌∙◌}
use Rattle.pm_map.specs.ClassRules.{IsQuarticAnswer}
use Rattle.pm_class.proofs.ExchangedLemmas.{unsampled_by_choices}
use Rattle.pm_euler.specs.Bounds.{quartic_choices, quartic_residues}
use Rattle.pm_euler.specs.Quartic.{SamplesQuartic}
use Rattle.pm_euler.proofs.QuarticClass.{quartic_class}
use Rattle.pm_euler.proofs.QuarticMade.{quartic_parts}
use Rattle.pm_euler.proofs.QuarticMaps.{quartic_size}
use Rattle.pm_euler.proofs.TreeSamples.{choices_of_map, map_degrees, old_plant_low, unplanted_is_made}
use Rattle.pm_euler.proofs.quartic.QuarticMapClass.unsample_valid.Goals as goal

pub unplant-requires-clause-degrees : goal.unplant-requires-clause-degrees
unplant-requires-clause-degrees c =
    map_degrees (quartic_class c.args.size.now (quartic_size c.args.map.now c.args.size.now c.edges-edges.ensures.valid c.requires.size)) c.args.map.now c.edges-edges.ensures.valid c.requires.size

pub unplant-requires-clause-leaf : goal.unplant-requires-clause-leaf
unplant-requires-clause-leaf c =
    old_plant_low (quartic_class c.args.size.now (quartic_size c.args.map.now c.args.size.now c.edges-edges.ensures.valid c.requires.size)) c.args.map.now c.args.residue.now c.edges-edges.ensures.valid c.requires.size
    (quartic_parts c.args.size.now c.args.residue.now c.requires.valid)

pub prefix_of-requires-clause-size : goal.prefix_of-requires-clause-size
prefix_of-requires-clause-size c = quartic_size c.args.map.now c.args.size.now c.edges-edges.ensures.valid c.requires.size

pub prefix_of-requires-clause-made : goal.prefix_of-requires-clause-made
prefix_of-requires-clause-made c =
    let r = quartic_parts c.args.size.now c.args.residue.now c.requires.valid in
    unplanted_is_made (quartic_class c.args.size.now (quartic_size c.args.map.now c.args.size.now c.edges-edges.ensures.valid c.requires.size)) c.args.map.now r.rest r.old_plant c.in_ok-unplanted.unplanted.tree c.in_ok-unplanted.unplanted.free
    c.edges-edges.ensures.valid c.requires.size r.valid c.in_ok-unplanted.ensures

pub returns : goal.returns
returns c =
    let r = quartic_parts c.args.size.now c.args.residue.now c.requires.valid in
    unsampled_by_choices quartic_choices quartic_residues SamplesQuartic IsQuarticAnswer c.args.size.now c.args.map.now c.args.residue.now c.requires.size c.requires.valid c.of.result
    (choices_of_map (quartic_class c.args.size.now (quartic_size c.args.map.now c.args.size.now c.edges-edges.ensures.valid c.requires.size)) c.args.map.now c.args.residue.now r.rest r.old_plant c.in_ok-unplanted.unplanted.tree
    c.in_ok-unplanted.unplanted.free c.in_ok-choices.choices.items c.of.result c.edges-edges.ensures.valid r.whole c.in_ok-unplanted.ensures c.in_ok-choices.ensures (c.of.ensures ∙ c.in_ok-push.ensures.items))
