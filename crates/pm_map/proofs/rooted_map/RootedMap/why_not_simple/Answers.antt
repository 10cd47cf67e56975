use Rattle.std.proofs.Common.{ℕ, List, sym, subst, arith}
use Rattle.std.specs.Prelude.{IsPermutation, MatchOption}
use Rattle.pm_perm.specs.Lists.{IsLeaderList}
use Rattle.pm_map.specs.Rotation.{structure_of}
use Rattle.pm_map.specs.Simple.{HasNoDouble, HasNoLoop, IsLeastDouble, IsLeastLoop}
use Rattle.pm_map.specs.steps.Ends.{AreGrouped}
use Rattle.pm_map.proofs.EndsLemmas.{AreSorted, grouped-sorted, loops-found, doubles-found}
use Rattle.pm_map.proofs.SimpleDarts.{darts_tell_simple}
use Rattle.pm_map.proofs.rooted_map.RootedMap.why_not_simple.Goals as goal

pub returns-in-Some : goal.returns-in-Some
returns-in-Some c =
    let m = c.args.self.now in
    let led : IsLeaderList m.sigma c.in_ok-leaders.leaders.items = subst (λ (sigma : List ℕ). IsLeaderList sigma c.in_ok-leaders.leaders.items) c.sigma.ensures.sigma c.in_ok-leaders.ensures in
    let loops : MatchOption c.least_loop.result (HasNoLoop (structure_of m)) (IsLeastLoop (structure_of m)) =
    loops-found m c.deref.result.now c.sigma.ensures.valid.even c.sigma.ensures.valid.structure.rotation (subst (IsLeaderList m.sigma) (sym c.deref.ensures.value) led) c.least_loop.result c.least_loop.ensures in
    rw c.in-Some.is at loops

pub least_double-requires : goal.least_double-requires
least_double-requires c =
    let sorted : AreSorted c.sort_unstable.new.self.items = record { sorted = λ k h. c.sort_unstable.ensures.sorted k (record { vertex = 0; far = 0; dart = 0 }) (omega arith) h } in
    subst AreGrouped (sym c.deref-3.ensures.value) (grouped-sorted c.sort_unstable.new.self.items sorted)

pub returns-in-Some-least_double : goal.returns-in-Some-least_double
returns-in-Some-least_double c =
    let m = c.args.self.now in
    let even = c.sigma.ensures.valid.even in
    let permutes = c.sigma.ensures.valid.structure.rotation in
    let led : IsLeaderList m.sigma c.in_ok-leaders.leaders.items = subst (λ (sigma : List ℕ). IsLeaderList sigma c.in_ok-leaders.leaders.items) c.sigma.ensures.sigma c.in_ok-leaders.ensures in
    let loops : MatchOption c.least_loop.result (HasNoLoop (structure_of m)) (IsLeastLoop (structure_of m)) =
    loops-found m c.deref.result.now even permutes (subst (IsLeaderList m.sigma) (sym c.deref.ensures.value) led) c.least_loop.result c.least_loop.ensures in
    let doubles : MatchOption c.least_double.result (HasNoDouble (structure_of m)) (IsLeastDouble (structure_of m)) =
    doubles-found m c.deref-2.result.now even permutes (subst (IsLeaderList m.sigma) (sym c.deref-2.ensures.value) led) c.in_ok-ends.ends.items c.deref-3.result.now c.least_double.result c.in_ok-ends.ensures
    (subst (IsPermutation c.in_ok-ends.ends.items) (sym c.deref-3.ensures.value) c.sort_unstable.ensures.permutation) c.least_double.ensures in
    let no_loop : HasNoLoop (structure_of m) = rw c.in_default.is at loops in
    (no_loop, rw c.in-Some-least_double.is at doubles)

pub returns : goal.returns
returns c =
    let m = c.args.self.now in
    let even = c.sigma.ensures.valid.even in
    let permutes = c.sigma.ensures.valid.structure.rotation in
    let led : IsLeaderList m.sigma c.in_ok-leaders.leaders.items = subst (λ (sigma : List ℕ). IsLeaderList sigma c.in_ok-leaders.leaders.items) c.sigma.ensures.sigma c.in_ok-leaders.ensures in
    let loops : MatchOption c.least_loop.result (HasNoLoop (structure_of m)) (IsLeastLoop (structure_of m)) =
    loops-found m c.deref.result.now even permutes (subst (IsLeaderList m.sigma) (sym c.deref.ensures.value) led) c.least_loop.result c.least_loop.ensures in
    let doubles : MatchOption c.least_double.result (HasNoDouble (structure_of m)) (IsLeastDouble (structure_of m)) =
    doubles-found m c.deref-2.result.now even permutes (subst (IsLeaderList m.sigma) (sym c.deref-2.ensures.value) led) c.in_ok-ends.ends.items c.deref-3.result.now c.least_double.result c.in_ok-ends.ensures
    (subst (IsPermutation c.in_ok-ends.ends.items) (sym c.deref-3.ensures.value) c.sort_unstable.ensures.permutation) c.least_double.ensures in
    let no_loop : HasNoLoop (structure_of m) = rw c.in_default.is at loops in
    let no_double : HasNoDouble (structure_of m) = rw c.in_default-least_double.is at doubles in
    (darts_tell_simple (structure_of m) c.sigma.ensures.valid.structure).1 (λ d h. (no_loop d h, no_double d h))
