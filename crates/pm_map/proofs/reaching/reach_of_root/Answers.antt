use Rattle.std.proofs.Common.{◌≡◌, ◌<◌, length, arith, rules}
use Rattle.pm_map.specs.Rotation.{structure_of}
use Rattle.pm_map.proofs.SearchLemmas.{reached_from_marks, unreached_from_marks}
use Rattle.pm_map.proofs.reaching.reach_of_root.Goals as goal

pub returns-in-None : goal.returns-in-None
returns-in-None c =
    let s = structure_of (record { sigma = c.args.sigma.now; root = c.args.root }) in
    let size : length c.mark_reached.new.marks ≡ length c.args.sigma.now = omega arith in
    let some : 0 < length c.args.sigma.now = search rules in
    reached_from_marks s c.mark_reached.new.marks c.in_ok-faces.faces size some c.in_ok-faces.ensures c.in-None.ensures

pub returns-in-Some : goal.returns-in-Some
returns-in-Some c =
    let s = structure_of (record { sigma = c.args.sigma.now; root = c.args.root }) in
    let size : length c.mark_reached.new.marks ≡ length c.args.sigma.now = omega arith in
    unreached_from_marks s c.mark_reached.new.marks c.in_ok-faces.faces c.in-Some.dart c.requires.structure size c.in_ok-faces.ensures c.in-Some.ensures
