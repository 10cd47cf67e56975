use Rattle.std.proofs.Common.{◌≡◌, length, map, arith}
use Rattle.std.proofs.lemmas.List.{length-map}
use Rattle.pm_mapfile.specs.steps.Rotation.{told_dart, turned_lines}
use Rattle.pm_mapfile.proofs.RotationLemmas.{untold_missing, written_back, written_none}
use Rattle.pm_mapfile.proofs.rotation.rotation_of_lines.Goals as goal

pub write_followers-requires-clause-none : goal.write_followers-requires-clause-none
write_followers-requires-clause-none c =
    rw (c.deref_mut.ensures.value, c.in_ok-sigma.ensures.items_if_clones_equal (λ y e. e)) (written_none c.args.darts.now (turned_lines c.args.sizes.now c.args.darts.now))

pub returns-in-Some : goal.returns-in-Some
returns-in-Some c =
    let are = c.write_followers.ensures in
    let size : length (map told_dart c.write_followers.new.followers) ≡ length c.args.darts.now = are.size in
    let same : c.deref.result.now ≡ c.write_followers.new.followers =
    written_back c.in_ok-sigma.sigma.len c.deref.result.now c.write_followers.new.followers c.in_ok-sigma.sigma.items c.deref.ensures.value (omega (arith, size, length-map c.write_followers.new.followers told_dart, c.in_ok-sigma.ensures.len, c.in_ok-sigma.sigma.ok.0)) in
    untold_missing c.args.darts.now c.args.sizes.now (map told_dart c.write_followers.new.followers) c.in-Some.dart are (rw same at c.in-Some.ensures)
