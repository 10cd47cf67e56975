use Rattle.std.proofs.Common.{◌≡◌, ℕ, List, pos, subst, sym, ◌∙◌, FitsSigned, w64, to_z, of_z, rules, arith}
use Rattle.std.proofs.lemmas.Int.{ints}
use Rattle.pm_map.specs.Structure.{IsConnected}
use Rattle.pm_map.specs.Plane.{euler_characteristic}
use Rattle.pm_map.specs.steps.ReachAnswers.{IsReachAnswer, IsReachedWhole}
use Rattle.pm_map.specs.Rotation.{structure_of}
use Rattle.pm_map.proofs.EulerLemmas.{euler_two, euler_other}
use Rattle.pm_map.proofs.TwinLemmas.{structure_of_parts}
use Rattle.pm_map.proofs.rooted_map.RootedMap.from_rotation.Goals as goal

pub from_rooted_rotation-requires : goal.from_rooted_rotation-requires
from_rooted_rotation-requires c =
    let same : c.deref.result.now ≡ c.args.sigma.items = search rules in
    let there = structure_of (record { sigma = c.deref.result.now; root = c.args.root }) in
    let answer : IsReachedWhole there c.in-Everywhere.faces = subst (λ r. IsReachAnswer there r) c.in-Everywhere.is c.in_ok-faces.ensures in
    let connected : IsConnected (structure_of (record { sigma = c.args.sigma.items; root = c.args.root })) =
    subst (λ (x : List ℕ). IsConnected (structure_of (record { sigma = x; root = c.args.root }))) same answer.connected in
    let deref : c.deref-2.result.now ≡ c.args.sigma.items = search rules in
    let counted : c.euler_characteristic-euler.result ≡ euler_characteristic (structure_of (record { sigma = c.args.sigma.items; root = c.args.root })) =
    subst (λ (x : List ℕ). c.euler_characteristic-euler.result ≡ euler_characteristic (structure_of (record { sigma = x; root = c.args.root }))) deref c.euler_characteristic-euler.ensures in
    let two : c.euler_characteristic-euler.result ≡ pos 2 = search (rules, c.if-euler-ne2.false) in
    record {
      even = c.requires.even;
      few = c.requires.few;
      structure = structure_of_parts c.args.sigma.items c.args.root c.requires.even c.requires.permutation c.requires.root c.requires.no_root;
      connected = connected;
      euler = euler_two (structure_of (record { sigma = c.args.sigma.items; root = c.args.root })) (sym counted ∙ two);
    }

pub returns-then-euler-ne2 : goal.returns-then-euler-ne2
returns-then-euler-ne2 c =
    let same : c.deref.result.now ≡ c.args.sigma.items = search rules in
    let there = structure_of (record { sigma = c.deref.result.now; root = c.args.root }) in
    let answer : IsReachedWhole there c.in-Everywhere.faces = subst (λ r. IsReachAnswer there r) c.in-Everywhere.is c.in_ok-faces.ensures in
    let here = structure_of (record { sigma = c.args.sigma.items; root = c.args.root }) in
    let connected : IsConnected here = subst (λ (x : List ℕ). IsConnected (structure_of (record { sigma = x; root = c.args.root }))) same answer.connected in
    let deref : c.deref-2.result.now ≡ c.args.sigma.items = search rules in
    let counted : c.euler_characteristic-euler.result ≡ euler_characteristic here =
    subst (λ (x : List ℕ). c.euler_characteristic-euler.result ≡ euler_characteristic (structure_of (record { sigma = x; root = c.args.root }))) deref c.euler_characteristic-euler.ensures in
    let fits : FitsSigned w64 c.euler_characteristic-euler.result = search rules in
    let back : to_z w64 (of_z w64 c.euler_characteristic-euler.result) ≡ c.euler_characteristic-euler.result = omega (arith, ints, fits) in
    record {
      few = c.requires.few;
      permutes = c.requires.permutation;
      connected = connected;
      number = back ∙ counted;
      other = euler_other here c.euler_characteristic-euler.result counted (search (rules, c.if-euler-ne2.true));
    }
