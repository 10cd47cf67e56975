use Rattle.std.proofs.Common.{◌≡◌, ◌<◌, ◌≤◌, ◌++◌, ◌∷◌, [], length, get_or, true, false, subst, sym, arith}
use Rattle.pm_map.specs.Rotation.{structure_of, twin}
use Rattle.pm_map.specs.Structure.{Structure}
use Rattle.pm_map.specs.steps.Search.{IsSearch, MarksFace}
use Rattle.pm_map.proofs.SearchLemmas.{IsSearch-begins, IsSearch-pop, IsSearch-step, IsSearch-popped, IsSearch-bound}
use Rattle.pm_map.proofs.reaching.mark_reached.Goals as goal

pub search-init : goal.search-init
search-init c =
    let met : MarksFace c.args.sigma.now c.args.root c.args.marks.now [] c.mark_face.new.marks c.mark_face.new.stack.items =
    subst (λ x. MarksFace c.args.sigma.now c.args.root c.args.marks.now x c.mark_face.new.marks c.mark_face.new.stack.items) c.new-stack.ensures.items c.in_ok-mark_face.ensures in
    IsSearch-begins _ _ _ _ _ c.requires.structure c.requires.unmarked (c.requires.structure.root_stays c.requires.some) met

pub bounds-marks-other : goal.bounds-marks-other
bounds-marks-other c =
    let s : Structure = structure_of (record { sigma = c.args.sigma.now; root = c.args.root }) in
    let below : c.in-Some.dart < length c.args.sigma.now = IsSearch-popped s _ _ _ _ _ c.search.invariant c.in-Some.ensures.items in
    let other : twin c.in-Some.dart < length c.args.sigma.now = c.requires.structure.twin_stays c.in-Some.dart below in
    let is : c.twin_of-other.result ≡ twin c.in-Some.dart = c.twin_of-other.ensures in
    let other_below : c.twin_of-other.result < length c.args.sigma.now = subst (λ x. x < length c.args.sigma.now) (sym is) other in
    omega arith

pub mark_face-requires-then-not-marks-other-clause-within :
    goal.mark_face-requires-then-not-marks-other-clause-within
mark_face-requires-then-not-marks-other-clause-within c =
    let s : Structure = structure_of (record { sigma = c.args.sigma.now; root = c.args.root }) in
    let below : c.in-Some.dart < length c.args.sigma.now = IsSearch-popped s _ _ _ _ _ c.search.invariant c.in-Some.ensures.items in
    let other : twin c.in-Some.dart < length c.args.sigma.now = c.requires.structure.twin_stays c.in-Some.dart below in
    subst (λ x. x < length c.args.sigma.now) (sym c.twin_of-other.ensures) other

pub overflow_add-faces : goal.overflow_add-faces
overflow_add-faces c =
    let s : Structure = structure_of (record { sigma = c.args.sigma.now; root = c.args.root }) in
    let bound : c.search.faces ≤ length c.args.sigma.now = IsSearch-bound s _ _ _ c.search.invariant in
    omega (arith, c.requires.few)

pub search-preserved-then-not-marks-other : goal.search-preserved-then-not-marks-other
search-preserved-then-not-marks-other c =
    let s : Structure = structure_of (record { sigma = c.args.sigma.now; root = c.args.root }) in
    let popped : IsSearch s c.search.marks (c.pop.new.self.items ++ c.in-Some.dart ∷ []) c.search.faces = subst (λ x. IsSearch s c.search.marks x c.search.faces) c.in-Some.ensures.items c.search.invariant in
    IsSearch-step _ _ c.in-Some.dart c.search.marks c.pop.new.self.items _ _ _ c.requires.structure popped
    (subst (λ k. get_or c.search.marks k false ≡ false) c.twin_of-other.ensures c.if-not-marks-other.true)
    (subst (λ k. MarksFace c.args.sigma.now k c.search.marks c.pop.new.self.items c.mark_face-then-not-marks-other.new.marks c.mark_face-then-not-marks-other.new.stack.items)
    c.twin_of-other.ensures c.in_ok-mark_face-2.ensures)

pub search-preserved : goal.search-preserved
search-preserved c =
    let s : Structure = structure_of (record { sigma = c.args.sigma.now; root = c.args.root }) in
    let popped : IsSearch s c.search.marks (c.pop.new.self.items ++ c.in-Some.dart ∷ []) c.search.faces = subst (λ x. IsSearch s c.search.marks x c.search.faces) c.in-Some.ensures.items c.search.invariant in
    IsSearch-pop s c.in-Some.dart c.search.marks c.pop.new.self.items c.search.faces popped
    (subst (λ k. get_or c.search.marks k false ≡ true) c.twin_of-other.ensures c.if-not-marks-other.false)
